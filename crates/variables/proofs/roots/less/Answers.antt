-- `variables::roots::less` meets its contract. Assumes nothing.
use Rattle.variables.proofs.MaskLaws.{in_less}
use Rattle.variables.proofs.roots.less.Goals as goal

pub returns : goal.returns
returns c = in_less _ _
