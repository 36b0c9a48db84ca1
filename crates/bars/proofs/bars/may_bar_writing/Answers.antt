-- `bars::bars::may_bar_writing` meets its contract. Assumes nothing.
use mathlib.Core.Path.{refl}
use Rattle.bars.proofs.HeldLaws.{any_in}
use Rattle.bars.proofs.bars.may_bar_writing.Goals as goal

pub in_scope-requires : goal.in_scope-requires
in_scope-requires c = c.requires.0

pub returns : goal.returns
returns c =
    any_in _ _ _ c.requires.0 c.requires.1 _ _ _ refl c.common.ensures c.in_scope.ensures
