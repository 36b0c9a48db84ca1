-- `bars::bars::may_bar_reading` meets its contract. Assumes nothing.
use mathlib.Core.Path.{refl}
use Rattle.bars.proofs.HeldLaws.{exclusive_in_law}
use Rattle.bars.proofs.bars.may_bar_reading.Goals as goal

pub returns : goal.returns
returns c =
    exclusive_in_law _ _ _ c.requires.0 c.requires.1 _ _ _ refl c.common.ensures refl
