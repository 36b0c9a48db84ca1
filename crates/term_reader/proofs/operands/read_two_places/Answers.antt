-- `term_reader::operands::read_two_places` meets its contract. Assumes nothing.
use Prim.Native.Nat.{ℕ, zero, suc}
use mathlib.Core.Path.{◌≡◌, refl, ap, ◌∙◌}
use mathlib.Core.List.{List}
use Rattle.std.proofs.lemmas.Result.{err_from_is_err_and}
use Rattle.syntax.specs.Result.{Result, ok, err, Refusal}
use Rattle.syntax.specs.Layout.{zeros}
use Rattle.syntax.specs.Parts.{place_fields}
use Rattle.syntax.specs.ByteParts.{on_number, judged_fields, values_at, two_place_fields}
use Rattle.term_reader.proofs.operands.read_two_places.Goals as goal

-- Two places are one, and then the other unless the first is refused.
abbrev follow : Result Refusal ℕ → Result Refusal ℕ → Result Refusal ℕ
follow (ok used) g = g
follow (err e) g = err e

follow_number : (m p : ℕ) (f g : Result Refusal ℕ) → on_number m p (follow f g) ≡ follow (on_number m p f) g
unfolding on_number
follow_number zero p f g = refl
follow_number (suc m) p f g = refl

two_places : (nv : ℕ) (t : List ℕ) (at : ℕ) → judged_fields (two_place_fields nv) t at 1 ≡ follow (judged_fields (place_fields nv) t at 1) (judged_fields (place_fields nv) t at 3)
unfolding judged_fields
two_places nv t at = ap (on_number _ _) (follow_number _ _ (ok 3) _) ∙ follow_number _ _ _ _

pub returns-in_err-root : goal.returns-in_err-root
returns-in_err-root c =
    let p = err_from_is_err_and c.from_residual.result c.from_residual.ensures.1 in
    rw (p.1, p.2) (rw (two_places, ← c.in_err-root.ensures.0) refl, tt)

pub returns-in_err-other_root : goal.returns-in_err-other_root
returns-in_err-other_root c =
    let p = err_from_is_err_and c.from_residual-in_err-other_root.result c.from_residual-in_err-other_root.ensures.1 in
    rw (p.1, p.2) (rw (two_places, ← c.in_ok-root.ensures.0) c.in_err-other_root.ensures.0, tt)

pub returns : goal.returns
unfolding values_at zeros
returns c =
    let q = c.in_ok-root.ensures in
    let r = c.in_ok-other_root.ensures in
    (rw (two_places, ← q.0) r.0, rw (q.1.0, q.1.1, r.1.0, r.1.1) refl)
