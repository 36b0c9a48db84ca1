-- A number that says what is wrong: 0 goes on, any other refuses.
use Prim.Native.Nat.{ℕ, zero, suc}
use native.Mathlib.Omega.{arith}
use mathlib.Core.Path.{◌≡◌, refl, sym}
use Rattle.syntax.specs.Result.{Result, ok, err, Refusal}
use Rattle.syntax.specs.ByteParts.{on_number}

pub number_stops : (m p : ℕ) (go : Result Refusal ℕ) → (m ≡ 0 → ⊥) → on_number m p go ≡ err (m, p)
unfolding on_number
number_stops zero p go h = absurd (h refl)
number_stops (suc m) p go h = refl

pub number_none : (m p : ℕ) (go : Result Refusal ℕ) → m ≡ 0 → on_number m p go ≡ go
unfolding on_number
number_none m p go e = rw e

pub number_fine : (m p used : ℕ) (go : Result Refusal ℕ) → on_number m p go ≡ ok used → (m ≡ 0) × (go ≡ ok used)
unfolding on_number
number_fine zero p used go e = (refl, e)
number_fine (suc m) p used go e = let z : ◌≡◌ {A = ℕ} 0 1 = cc in absurd (omega arith)

-- What one byte is judged, as what it begins.
module _ (m p x : ℕ) where
  pub number_passed : (go : Result Refusal ℕ) (e : Refusal) → err e ≡ on_number m p (ok x) → err e ≡ on_number m p go
  unfolding on_number
  number_passed go e = by_number m
    where
      by_number : (m : ℕ) → err e ≡ on_number m p (ok x) → err e ≡ on_number m p go
      by_number zero h = let z : ◌≡◌ {A = ℕ} 0 1 = cc in absurd (omega arith)
      by_number (suc m) h = h

  pub number_says : (v : ℕ) → ok v ≡ on_number m p (ok x) → (m ≡ 0) × (v ≡ x)
  number_says v h =
      let q = number_fine m p v (ok x) (sym h) in
      let e = q.1 in
      (q.0, cc)
