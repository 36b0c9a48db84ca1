-- `variables::roots::lowest` meets its contract. Assumes nothing.
use Prim.Native.Nat.{◌<◌, ◌^◌}
use native.Mathlib.Omega.{arith}
use lib.Count.{trailing_le}
use Rattle.variables.proofs.MaskLaws.{low_found, high_found, low_least, high_least}
use Rattle.variables.proofs.roots.lowest.Goals as goal

pub overflow_cast-result : goal.overflow_cast-result
overflow_cast-result c = omega (arith, trailing_le 64 c.before.before.before.args.s.low)

pub overflow_cast-result-else-s-ne0 : goal.overflow_cast-result-else-s-ne0
overflow_cast-result-else-s-ne0 c = omega (arith, trailing_le 64 c.before.before.before.args.s.high)

pub overflow_add-result : goal.overflow_add-result
overflow_add-result c = omega (arith, trailing_le 64 c.before.before.before.args.s.high)

pub returns-then-s-ne0 : goal.returns-then-s-ne0
returns-then-s-ne0 c =
    let s = c.before.before.before.args.s in
    let l : s.low < 2 ^ 64 = omega arith in
    let F = low_found s l c.before.if-s-ne0.true in (F.0, omega (arith, F.1), low_least s)

pub returns-else-s-ne0 : goal.returns-else-s-ne0
returns-else-s-ne0 c =
    let s = c.before.before.before.args.s in
    let l : s.high < 2 ^ 64 = omega arith in
    let F = high_found s l c.before.if-s-ne0.false c.before.before.before.requires in (F.0, omega (arith, F.1), λ x h. high_least s x c.before.if-s-ne0.false h)
