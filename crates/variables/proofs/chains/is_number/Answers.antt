-- `variables::chains::is_number` meets its contract. Assumes nothing.
use Rattle.variables.proofs.ChainLaws.{number_test}
use Rattle.variables.proofs.chains.is_number.Goals as goal

pub returns : goal.returns
returns c = number_test c.args.links
