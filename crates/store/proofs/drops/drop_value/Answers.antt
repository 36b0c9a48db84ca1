-- `store::drops::drop_value` meets its contract. Assumes nothing.
use mathlib.Core.Path.{subst}
use Rattle.store.specs.Words.{Sound}
use Rattle.store.proofs.CellLaws.{drop_other}
use Rattle.store.proofs.drops.drop_value.Goals as goal

pub give_back-requires : goal.give_back-requires
give_back-requires c = (c.requires.0, subst (Sound c.args.limits.now) c.in-Owner.is c.requires.1)

pub returns-in-Owner : goal.returns-in-Owner
returns-in-Owner c = rw c.in-Owner.is c.give_back.ensures

pub returns-in_default : goal.returns-in_default
returns-in_default c = drop_other _ _ _ c.in_default.not-Owner c.requires.0
