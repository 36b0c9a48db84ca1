-- `variables::chains::chain_length` meets its contract. Assumes nothing.
use Rattle.std.proofs.Common.{length, ap, arith}
use Rattle.variables.proofs.chains.chain_length.Goals as goal

pub loop-after-preserved : goal.loop-after-preserved
loop-after-preserved c = (omega (arith, ap length c.in-Some.ensures.0), omega (arith, c.in-Some.ensures.1))

pub returns : goal.returns
returns c = (omega (arith, ap length c.in_default.ensures), omega arith)
