-- The place of what is refused in operands, and in mark and version: none is far on.
use Prim.Native.Nat.{ℕ, zero, suc, ◌+◌, ◌*◌, ◌≤◌}
use native.Mathlib.Omega.{arith}
use mathlib.Core.Path.{◌≡◌, subst}
use mathlib.Core.Bool.{Bool, true, false}
use mathlib.Core.Option.{Option, none, some}
use mathlib.Core.List.{List, [], ◌∷◌}
use lib.ListN.{length}
use lib.Dec.{ltb}
use Rattle.syntax.specs.Result.{Result, ok, err, pick, Refusal}
use Rattle.syntax.specs.Limits.{Limits}
use Rattle.syntax.specs.Kinds.{Kind, k_number, k_reading, k_copy, k_move, k_shared, k_exclusive, k_box, k_let, k_assign, k_below, k_block, k_choice, k_sum, newest, knows, kind_of, Field, word, until, fields}
use Rattle.syntax.specs.Parts.{fields_in, fields_of}
use Rattle.syntax.specs.ByteParts.{field_number, mark_number, on_number, judged_fields, version_at, lead_judged}

abbrev Near : ℕ → Result Refusal ℕ → Type 0
Near b (ok used) = Unit {0}
Near b (err (n, p)) = p ≤ b

module _ (b : ℕ) where
  near_pick : (t : Bool) (x y : Result Refusal ℕ) → Near b x → Near b y → Near b (pick t x y)
  near_pick true x y f g = f
  near_pick false x y f g = g

  near_number : (n p : ℕ) (go : Result Refusal ℕ) → p ≤ b → Near b go → Near b (on_number n p go)
  unfolding on_number
  near_number zero p go h g = g
  near_number (suc n) p go h g = h

  near_fields : (fs : List Field) (t : List ℕ) (at j : ℕ) → at + length t ≤ b → at + j + 4 * length fs ≤ b → Near b (judged_fields fs t at j)
  unfolding judged_fields
  near_fields [] t at j h l = tt
  near_fields (word ∷ fs) t at j h l = near_pick (ltb (length t) (j + 4)) _ _ h (near_fields fs t at (j + 4) h (omega arith))
  near_fields (until x y ∷ fs) t at j h l = near_number (field_number t j x y) (at + j) _ (omega arith) (near_fields fs t at (j + 1) h (omega arith))

few_fields : (l : Limits) (o : Option Kind) → length (fields_in l o) ≤ 4
unfolding fields_in fields
few_fields l none = omega arith
few_fields l (some k_number) = omega arith
few_fields l (some k_reading) = omega arith
few_fields l (some k_copy) = omega arith
few_fields l (some k_move) = omega arith
few_fields l (some k_shared) = omega arith
few_fields l (some k_exclusive) = omega arith
few_fields l (some k_box) = omega arith
few_fields l (some k_let) = omega arith
few_fields l (some k_assign) = omega arith
few_fields l (some k_below) = omega arith
few_fields l (some k_block) = omega arith
few_fields l (some k_choice) = omega arith
few_fields l (some k_sum) = omega arith

pub operands_near : (l : Limits) (kind : ℕ) (t : List ℕ) (at n p : ℕ) → judged_fields (fields_of l kind) t at 1 ≡ err (n, p) → at + length t ≤ 32768 → p ≤ 33000
unfolding fields_of
operands_near l kind t at n p e h =
    subst (λ (f : Result Refusal ℕ). Near 33000 f) e (near_fields 33000 (fields_in l (kind_of newest kind)) t at 1 (omega arith) (omega (arith, few_fields l (kind_of newest kind))))

pub lead_near : (k : ℕ) (t : List ℕ) (at n p : ℕ) → lead_judged k t at ≡ err (n, p) → at ≤ length t → length t ≤ 32768 → p ≤ 33000
unfolding lead_judged
lead_near k t at n p e i h =
    subst (λ (f : Result Refusal ℕ). Near 33000 f) e
    (near_number 33000 (mark_number t at 0x52) at _ (omega arith)
    (near_number 33000 (mark_number t (at + 1) 0x43) (at + 1) _ (omega arith)
    (near_number 33000 (mark_number t (at + 2) 0x53) (at + 2) _ (omega arith)
    (near_pick 33000 (ltb (length t) (at + 5)) (err (12, length t)) _ (omega arith)
    (near_pick 33000 (knows k (version_at t (at + 3))) (ok (at + 5)) (err (11, at + 3)) tt (omega arith))))))
