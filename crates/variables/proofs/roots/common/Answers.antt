-- `variables::roots::common` meets its contract. Assumes nothing.
use Rattle.variables.proofs.MaskLaws.{in_both}
use Rattle.variables.proofs.roots.common.Goals as goal

pub returns : goal.returns
returns c = in_both _ _
