-- `variables::chains::split_first` meets its contract. Assumes nothing.
use Rattle.std.proofs.Common.{arith}
use Rattle.variables.proofs.ChainLaws.{chain_none, chain_pos}
use Rattle.variables.proofs.chains.split_first.Goals as goal

pub returns-then-links-eq0 : goal.returns-then-links-eq0
returns-then-links-eq0 c = chain_none _ (omega arith)

pub returns : goal.returns
returns c = (rw (chain_pos c.args.links (omega arith), c.link_of.ensures), omega arith)
