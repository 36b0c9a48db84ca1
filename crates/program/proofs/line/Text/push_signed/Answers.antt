use native.Mathlib.Omega.{arith}
use mathlib.Core.Path.{◌≡◌, ap}
use mathlib.Core.Bool.{true, false}
use lib.IntN.{pos}
use lib.ListN.{length}
use lib.Signed.{lt_z}
use mir.Facts.{to_z-of_z}
use Rattle.std.proofs.lemmas.Int.{ints}
use Rattle.program.specs.declared.line.Text.{Text}
use Rattle.program.specs.Line.{decimal}
use Rattle.program.proofs.LineLaws.{append_next, signed_plain, signed_minus}
use Rattle.program.proofs.line.Text.push_signed.Goals.{then-n-lt0, else-n-lt0}
use Rattle.program.proofs.line.Text.push_signed.Goals as goal

pub push-requires : goal.push-requires
push-requires c =
    let t : lt_z c.args.n (pos 0) ≡ true = grind (arith, ints) in
    omega (arith, c.requires, ap length (signed_minus c.args.n t))

pub push_decimal-requires : goal.push_decimal-requires
push_decimal-requires c =
    let v = rw (to_z-of_z c.ranges.n) at c.unsigned_abs.ensures.value in
    let d = ap (λ k. length (decimal k)) v in
    elim c.if-n-lt0.branch [
      | then-n-lt0 w ↦
          let t : lt_z c.args.n (pos 0) ≡ true = grind (arith, ints) in
          omega (arith, c.requires, d, w.push.ensures.ends, ap (λ (k : Text). k.length) w.self-is, ap length (signed_minus c.args.n t))
      | else-n-lt0 w ↦
          let t : lt_z c.args.n (pos 0) ≡ false = grind (arith, ints) in
          omega (arith, c.requires, d, ap (λ (k : Text). k.length) w.self-is, ap length (signed_plain c.args.n t))
    ]

pub returns : goal.returns
returns c =
    let v = rw (to_z-of_z c.ranges.n) at c.unsigned_abs.ensures.value in
    let d = rw v at c.push_decimal.ensures in
    elim c.if-n-lt0.branch [
      | then-n-lt0 w ↦
          let t : lt_z c.args.n (pos 0) ≡ true = grind (arith, ints) in
          rw (signed_minus c.args.n t) (append_next w.push.ensures (rw w.self-is at d))
      | else-n-lt0 w ↦
          let t : lt_z c.args.n (pos 0) ≡ false = grind (arith, ints) in
          rw (signed_plain c.args.n t) (rw w.self-is at d)
    ]
