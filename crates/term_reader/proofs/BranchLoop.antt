-- The two blocks of a choice in bytes, read one after the other: the laws of a block's loop, gone round twice.
use Prim.Native.Nat.{ℕ, ◌-◌}
use native.Mathlib.Omega.{arith}
use mathlib.Core.Path.{◌≡◌, refl, sym, ap, ◌∙◌, subst}
use mathlib.Core.Bool.{true}
use mathlib.Core.List.{List}
use lib.ListN.{length, drop, take}
use Rattle.syntax.specs.Limits.{Limits}
use Rattle.syntax.specs.Layout.{in_rows, lay, lays}
use Rattle.syntax.specs.ByteParts.{Ready, Got, Reading, read_term, read_branches}
use Rattle.syntax.specs.ByteParts as got
use Rattle.syntax.proofs.Lists.{part_all}
use Rattle.term_reader.proofs.LoopLaws.{Going, going_start, going_refused, going_on}

-- The answer r is what the first block is read as.
module _ (l : Limits) (v levels : ℕ) (tail : List ℕ) (at terms boxes : ℕ) (rows rows₁ : List ℕ) (ready : Ready l tail at boxes rows) where
  start : Going l v levels true 2 tail at terms boxes rows rows at terms boxes 2
  start = going_start l v levels true tail at terms boxes rows 2 ready (omega arith)

  at_start : (r : Got) → Reading (lay in_rows) (read_term l v levels true tail at terms boxes) terms rows rows₁ r → Reading (lay in_rows) (read_term l v levels true (take (length tail - (at - at)) (drop (at - at) tail)) at terms boxes) terms rows rows₁ r
  at_start r q =
      let z : at - at ≡ 0 = omega arith in
      subst (λ (x : List ℕ). Reading (lay in_rows) (read_term l v levels true x at terms boxes) terms rows rows₁ r) (sym (part_all tail (at - at) ∙ ap (λ (k : ℕ). drop k tail) z)) q

  pub first_refused : (n p : ℕ) → Reading (lay in_rows) (read_term l v levels true tail at terms boxes) terms rows rows₁ (got.Refused n p) → Reading (lays in_rows) (read_branches l v levels tail at terms boxes) terms rows rows₁ (got.Refused n p)
  first_refused n p q = going_refused l v levels true tail at terms boxes rows 2 rows at terms boxes 2 start (omega arith) rows₁ _ (at_start _ q) n p refl

  pub second_due : {a b d : ℕ} → Reading (lay in_rows) (read_term l v levels true tail at terms boxes) terms rows rows₁ (got.Fine a b d) → length rows₁ ≡ length rows → Going l v levels true 2 tail at terms boxes rows rows₁ a b d 1
  second_due {a} {b} {d} q kept = going_on l v levels true tail at terms boxes rows 2 rows at terms boxes 2 start (omega arith) rows₁ _ (at_start _ q) a b d refl (kept ∙ ready.full)
