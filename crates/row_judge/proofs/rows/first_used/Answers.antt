-- `row_judge::rows::first_used` meets its contract. The loop's invariant: the first number not 0 is still ahead. Assumes nothing.
use Prim.Native.Nat.{ℕ, ◌≤◌, ◌+◌, ◌-◌}
use native.Mathlib.Omega.{arith}
use mathlib.Core.Path.{◌≡◌, sym, ap, ◌∙◌}
use lib.ListN.{length, take, drop}
use Rattle.syntax.specs.RowParts.{bits_of}
use Rattle.std.proofs.lemmas.List.{take_rest}
use Rattle.row_judge.proofs.LeftOver.{bits_unused, rest_unused}
use Rattle.row_judge.proofs.rows.first_used.Goals as goal

pub loop-i-preserved : goal.loop-i-preserved
loop-i-preserved c =
    let l = c.loop-i in
    let m : l.i + 32 ≤ length c.args.rows.now = omega (arith, l.invariant.0, c.loop-i-test.true) in
    let n : 32 ≡ l.i + 32 - l.i = omega arith in
    let z = ap (λ (n : ℕ). bits_of 0 (take n (drop l.i c.args.rows.now))) n ∙ sym c.bits_of.ensures ∙ c.if-bits_of-ne0.false in
    (m, sym (bits_unused _ _ 32 m z) ∙ l.invariant.1)

pub returns-then-bits_of-eq0 : goal.returns-then-bits_of-eq0
returns-then-bits_of-eq0 c = rest_unused _ _ c.loop-i.invariant.0 (ap (bits_of 0) (sym (take_rest c.args.rows.now c.loop-i.i)) ∙ sym c.bits_of-2.ensures ∙ c.if-bits_of-eq0.true) ∙ c.loop-i.invariant.1
