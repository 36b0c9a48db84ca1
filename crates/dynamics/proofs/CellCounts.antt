-- How many cells are given back.
use Prim.Native.Nat.{ℕ, zero, suc, ◌+◌, ◌-◌, ◌≤◌, ◌<◌}
use native.Mathlib.Omega.{arith}
use native.Mathlib.Nat.{zero-add, suc-add}
use native.Mathlib.Decide.{ℕ_discrete}
use mathlib.Core.Path.{◌≡◌, refl, ap, ◌∙◌}
use mathlib.Core.Logic.{◌≢◌}
use mathlib.Core.Bool.{Bool, true, false}
use Rattle.syntax.specs.Result.{pick}
use Rattle.dynamics.specs.Values.{cell, closed, given_back}
use Rattle.dynamics.specs.Store.{Store, put}
use Rattle.dynamics.specs.Drop.{is_given_back, cells_given_back}
use Rattle.dynamics.proofs.StoreLaws.{put_same, put_other}

module _ (S : Store) (c : ℕ) where
  cell_other : (n : ℕ) → n ≢ c → put S (cell c) given_back (cell n) ≡ S (cell n)
  cell_other n h = put_other S (cell c) given_back (cell n) (λ e. h (cc))

  count_below : (n : ℕ) → n ≤ c → cells_given_back n (put S (cell c) given_back) ≡ cells_given_back n S
  unfolding cells_given_back
  count_below zero h = refl
  count_below (suc n) h = rw (cell_other n (omega arith), count_below n (omega arith))

  -- One more is given back.
  pub count_more : (n : ℕ) → c < n → is_given_back (S (cell c)) ≡ false → cells_given_back n (put S (cell c) given_back) ≡ suc (cells_given_back n S)
  unfolding cells_given_back is_given_back
  count_more zero h e = absurd (omega arith)
  count_more (suc n) h e = go (ℕ_discrete n c) (λ k. count_more n k e)
    where
      go : Dec (n ≡ c) → (c < n → cells_given_back n (put S (cell c) given_back) ≡ suc (cells_given_back n S))
          → pick (is_given_back (put S (cell c) given_back (cell n))) (suc (cells_given_back n (put S (cell c) given_back))) (cells_given_back n (put S (cell c) given_back))
          ≡ suc (pick (is_given_back (S (cell n))) (suc (cells_given_back n S)) (cells_given_back n S))
      go (yes q) ih = rw (q, put_same S (cell c) given_back, e, count_below c (omega arith))
      go (no q) ih = rw (cell_other n q, ih (omega arith)) (pick_suc (is_given_back (S (cell n))) (cells_given_back n S))
        where
          pick_suc : (b : Bool) (k : ℕ) → pick b (suc (suc k)) (suc k) ≡ suc (pick b (suc k) k)
          pick_suc true k = refl
          pick_suc false k = refl

pub count_bound : (n : ℕ) (S : Store) → cells_given_back n S ≤ n
unfolding cells_given_back
count_bound zero S = omega arith
count_bound (suc n) S = go (is_given_back (S (cell n))) (count_bound n S)
  where
    go : (b : Bool) → cells_given_back n S ≤ n → pick b (suc (cells_given_back n S)) (cells_given_back n S) ≤ suc n
    go true h = omega arith
    go false h = omega arith

count_all : (k : ℕ) (S : Store) → ((c : ℕ) → c < k → S (cell c) ≡ given_back) → cells_given_back k S ≡ k
unfolding cells_given_back is_given_back
count_all zero S h = refl
count_all (suc k) S h = rw (h k (omega arith), count_all k S (λ c l. h c (omega arith)))

count_past : (m k : ℕ) (S : Store) → ((c : ℕ) → k ≤ c → S (cell c) ≡ closed) → cells_given_back (m + k) S ≡ cells_given_back k S
unfolding cells_given_back is_given_back
count_past zero k S h = ap (λ (n : ℕ). cells_given_back n S) (zero-add k)
count_past (suc m) k S h = ap (λ (n : ℕ). cells_given_back n S) (suc-add m k) ∙ rw (h (m + k) (omega arith)) (count_past m k S h)

-- The cells given back are the first k.
pub count_given : (n : ℕ) (S : Store) (k : ℕ) → k ≤ n → ((c : ℕ) → c < k → S (cell c) ≡ given_back) → ((c : ℕ) → k ≤ c → S (cell c) ≡ closed)
    → cells_given_back n S ≡ k
count_given n S k l given after =
    ap (λ (m : ℕ). cells_given_back m S) (let z : n ≡ n - k + k = omega arith in z) ∙ count_past (n - k) k S after ∙ count_all k S given
