-- `signed::signed::sum_bits` meets its contract. Assumes nothing.
use Rattle.std.proofs.Common.{rules}
use Rattle.dynamics.specs.Signed.{held_sum}
use Rattle.signed.proofs.signed.sum_bits.Goals as goal

pub returns : goal.returns
unfolding held_sum
returns c = search rules
