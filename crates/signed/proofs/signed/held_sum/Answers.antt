-- `signed::signed::held_sum` meets its contract. Assumes nothing.
use native.Mathlib.Omega.{arith}
use Rattle.std.proofs.lemmas.Int.{ints, clamps}
use Rattle.dynamics.specs.Signed.{held}
use Rattle.signed.proofs.signed.held_sum.Goals as goal

pub returns : goal.returns
unfolding held
returns c = grind (arith, ints, clamps)
