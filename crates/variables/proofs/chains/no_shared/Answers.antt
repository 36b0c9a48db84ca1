-- `variables::chains::no_shared` meets its contract. Assumes nothing.
use Rattle.std.proofs.Common.{take}
use Rattle.variables.specs.Chains.{chain_of}
use Rattle.variables.proofs.ChainLaws.{none_passed}
use Rattle.variables.proofs.chains.no_shared.Goals as goal

pub returns : goal.returns
returns c = none_passed _ (take c.args.k (chain_of c.args.links)) _ c.last_shared.ensures c.is_none.ensures
