-- The mark of a script, byte by byte.
use Prim.Native.Nat.{ℕ, zero, suc, ◌+◌, ◌-◌, ◌*◌, ◌≤◌, ◌<◌}
use native.Mathlib.Omega.{arith}
use mathlib.Core.Path.{◌≡◌, refl, ap, ap₂, ◌∙◌}
use mathlib.Core.List.{List, [], ◌∷◌}
use lib.ListN.{length, get_or, take, drop, length-drop}
use lib.Seq.{drop-cons, get_or-drop}
use lib.Dec.{ltb}
use Rattle.syntax.specs.Result.{Result, ok, err, Refusal, pick}
use Rattle.syntax.specs.Kinds.{knows}
use Rattle.syntax.specs.ByteParts.{on_number, mark_number, version_at, lead_judged}
use Rattle.script_reader.specs.Lent.{marked}
use Rattle.syntax.proofs.Lists.{part_all}
use Rattle.script_reader.proofs.ScriptLaws.{mark_room}

abbrev pub mark_bytes : List ℕ
mark_bytes = 0x52 ∷ 0x43 ∷ 0x53 ∷ []

module _ (t : List ℕ) where
  -- The byte at j, and those after it.
  pub mark_at : (bs : List ℕ) (at j : ℕ) (go : Result Refusal ℕ) → j < length bs
      → marked (drop j bs) t (at + j) go ≡ on_number (mark_number t (at + j) (get_or bs j 0)) (at + j) (marked (drop (j + 1) bs) t (at + (j + 1)) go)
  unfolding marked
  mark_at bs at j go h =
      let m : suc j ≡ j + 1 = omega arith in
      let e : at + j + 1 ≡ at + (j + 1) = omega arith in
      ap (λ (x : List ℕ). marked x t (at + j) go) (drop-cons bs j 0 h)
      ∙ ap₂ (λ (n p : ℕ). on_number (mark_number t (at + j) (get_or bs j 0)) (at + j) (marked (drop n bs) t p go)) m e

  -- A refusal does not depend on what follows.
  pub mark_stops : (bs : List ℕ) (at x : ℕ) (go : Result Refusal ℕ) (e : Refusal) → err e ≡ marked bs t at (ok x) → err e ≡ marked bs t at go
  unfolding marked on_number
  mark_stops [] at x go e = λ h. let z : ◌≡◌ {A = ℕ} 0 1 = cc in absurd (omega arith)
  mark_stops (b ∷ bs) at x go e = by_number (mark_number t at b) (mark_stops bs (at + 1) x go e)
    where
      by_number : (m : ℕ) → (err e ≡ marked bs t (at + 1) (ok x) → err e ≡ marked bs t (at + 1) go) → err e ≡ on_number m at (marked bs t (at + 1) (ok x)) → err e ≡ on_number m at (marked bs t (at + 1) go)
      by_number zero next h = next h
      by_number (suc m) next h = h

  -- Where it stands, what follows is the answer, and its bytes are there.
  abbrev pub Stands : List ℕ → ℕ → Type 0
  Stands bs at = ((go : Result Refusal ℕ) → marked bs t at go ≡ go) × (at + length bs ≤ length t)

  pub mark_stands : (bs : List ℕ) (at x y : ℕ) → at ≤ length t → ok y ≡ marked bs t at (ok x) → Stands bs at
  unfolding marked on_number
  mark_stands [] at x y = λ l h. (λ go. refl, omega arith)
  mark_stands (b ∷ bs) at x y = λ l. by_number (mark_number t at b) refl (mark_stands bs (at + 1) x y)
    where
      by_number : (m : ℕ) → mark_number t at b ≡ m → (at + 1 ≤ length t → ok y ≡ marked bs t (at + 1) (ok x) → Stands bs (at + 1))
          → ok y ≡ on_number m at (marked bs t (at + 1) (ok x)) → ((go : Result Refusal ℕ) → on_number m at (marked bs t (at + 1) go) ≡ go) × (at + length (b ∷ bs) ≤ length t)
      by_number zero e next h =
          let i = mark_room t at b e in
          let r = next (omega arith) h in
          (r.0, omega (arith, r.1))
      by_number (suc m) e next h = let z : ◌≡◌ {A = ℕ} 0 1 = cc in absurd (omega arith)

  -- Mark and version are the mark, and then the version.
  pub lead_after_mark : (n at : ℕ) → lead_judged n t at ≡ marked mark_bytes t at (pick (ltb (length t) (at + 5)) (err (12, length t)) (pick (knows n (version_at t (at + 3))) (ok (at + 5)) (err (11, at + 3))))
  unfolding lead_judged marked
  lead_after_mark n at = let e : at + 1 + 1 ≡ at + 2 = omega arith in rw e refl

  -- The bytes after the mark, as the code takes them.
  module _ (n : ℕ) where
    abbrev Rest : List ℕ
    Rest = take (length t - n) (drop n t)

    pub rest_length : length Rest ≡ length t - n
    rest_length = ap length (part_all t n) ∙ length-drop n t

    pub rest_version : get_or Rest 0 0 * 256 + get_or Rest 1 0 ≡ version_at t n
    rest_version =
        let e : n + 0 ≡ n = omega arith in
        rw (part_all, get_or-drop n t 0 0, get_or-drop n t 1 0, e) refl
