-- `variables::roots::no_roots` meets its contract. Assumes nothing.
use Rattle.variables.proofs.MaskLaws.{in_none}
use Rattle.variables.proofs.roots.no_roots.Goals as goal

pub returns : goal.returns
returns c = in_none
