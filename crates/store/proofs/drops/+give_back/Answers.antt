-- Giving cells back, one behind the other. Assumes nothing.
use mathlib.Core.Path.{subst}
use Rattle.store.specs.Words.{Sound}
use Rattle.store.proofs.CellLaws.{drop_other, drop_shut, drop_goes, drop_falls, held_sound}
use Rattle.store.proofs.drops.+give_back.Goals as goal

pub returns-in_default : goal.returns-in_default
returns-in_default t c = drop_shut _ _ _ _ c.load.ensures c.in_default.not-Open c.requires.0

pub give_back-requires : goal.give_back-requires
give_back-requires t c =
    (rw (← c.decreases) (drop_falls _ _ _ _ c.load.ensures _ c.in-Open.is _ c.put_row.ensures), (c.put_row.ensures.tidy, subst (Sound c.args.limits.now) c.in-Owner.is (held_sound _ _ _ _ c.load.ensures _ c.in-Open.is _ c.put_row.ensures)))

pub returns-in-Owner : goal.returns-in-Owner
returns-in-Owner t c = drop_goes _ _ _ _ c.load.ensures _ c.in-Open.is _ c.put_row.ensures _ _ (rw c.in-Owner.is c.give_back.ensures)

pub returns-in_default-held : goal.returns-in_default-held
returns-in_default-held t c =
    drop_goes _ _ _ _ c.load.ensures _ c.in-Open.is _ c.put_row.ensures _ _ (drop_other _ _ _ c.in_default-held.not-Owner c.put_row.ensures.tidy)
