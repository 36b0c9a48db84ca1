-- `variables::roots::unite` meets its contract. Assumes nothing.
use Rattle.variables.proofs.MaskLaws.{in_either}
use Rattle.variables.proofs.roots.unite.Goals as goal

pub returns : goal.returns
returns c = in_either _ _
