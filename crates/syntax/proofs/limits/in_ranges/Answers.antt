-- `syntax::limits::in_ranges` meets its contract. Assumes nothing.
use native.Mathlib.Omega.{arith}
use borrow.Author.Tests.{lt-leb, le-leb}
use Rattle.syntax.specs.Limits.{in_ranges}
use Rattle.syntax.proofs.limits.in_ranges.Goals as goal

pub returns-then-set-ge1-3 : goal.returns-then-set-ge1-3
unfolding in_ranges
returns-then-set-ge1-3 c = grind (arith, lt-leb, le-leb)

pub returns-else-set-ge1-3 : goal.returns-else-set-ge1-3
unfolding in_ranges
returns-else-set-ge1-3 c = grind (arith, lt-leb, le-leb)
