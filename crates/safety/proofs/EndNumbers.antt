-- The lent numbers of a store whose rows are closed or given back.
use Prim.Native.Nat.{ℕ, zero, suc, ◌+◌, ◌-◌, ◌≤◌, ◌<◌}
use native.Mathlib.Omega.{arith}
use mathlib.Core.Path.{◌≡◌, refl, sym, ap, ap₂, ◌∙◌}
use mathlib.Core.List.{List, ◌++◌, append_assoc}
use Rattle.dynamics.specs.Values.{variable, cell, closed, given_back}
use Rattle.dynamics.specs.Store.{Store}
use Rattle.dynamics.specs.Encode.{state_number, kind_number, location_of, payload, triple, encode_from, encode}
use Rattle.safety.specs.Safety.{closed_rows, given_rows}
use Rattle.dynamics.proofs.EncodeLaws.{variable_location, cell_location}

module _ (n : ℕ) (S : Store) where
  from_split : (r a b : ℕ) → encode_from n r (a + b) S ≡ encode_from n r a S ++ encode_from n (r + a) b S
  unfolding encode_from
  from_split r zero b = ap₂ (λ (x k : ℕ). encode_from n x k S) (let z : r ≡ r + 0 = omega arith in z) (let z : 0 + b ≡ b = omega arith in z)
  from_split r (suc a) b =
      ap (λ (k : ℕ). encode_from n r k S) (let z : suc a + b ≡ suc (a + b) = omega arith in z)
      ∙ ap (λ (xs : List ℕ). triple n (S (location_of n r)) ++ xs) (from_split (suc r) a b ∙ ap (λ (x : ℕ). encode_from n (suc r) a S ++ encode_from n x b S) (let z : suc r + a ≡ r + suc a = omega arith in z))
      ∙ sym (append_assoc (triple n (S (location_of n r))) (encode_from n (suc r) a S) (encode_from n (r + suc a) b S))

  from_closed : (k r : ℕ) → ((j : ℕ) → r ≤ j → j < r + k → S (location_of n j) ≡ closed) → encode_from n r k S ≡ closed_rows k
  unfolding encode_from triple state_number kind_number payload closed_rows
  from_closed zero r h = refl
  from_closed (suc k) r h = rw (h r (omega arith) (omega arith), from_closed k (suc r) (λ j a b. h j (omega arith) (omega arith))) refl

  from_given : (k r : ℕ) → ((j : ℕ) → r ≤ j → j < r + k → S (location_of n j) ≡ given_back) → encode_from n r k S ≡ given_rows k
  unfolding encode_from triple state_number kind_number payload given_rows
  from_given zero r h = refl
  from_given (suc k) r h = rw (h r (omega arith) (omega arith), from_given k (suc r) (λ j a b. h j (omega arith) (omega arith))) refl

  module _ (cells k : ℕ) (fits : k ≤ cells) (variables : (x : ℕ) → S (variable x) ≡ closed) (given : (c : ℕ) → c < k → S (cell c) ≡ given_back) (untaken : (c : ℕ) → k ≤ c → S (cell c) ≡ closed) where
    at_variable : (j : ℕ) → j < n → S (location_of n j) ≡ closed
    at_variable j h = ap S (variable_location n j h) ∙ variables j

    at_cell : (j : ℕ) → n ≤ j → location_of n j ≡ cell (j - n)
    at_cell j h = ap (location_of n) (let z : j ≡ n + (j - n) = omega arith in z) ∙ cell_location n (j - n)

    pub end_numbers : encode n (n + cells) S ≡ closed_rows n ++ (given_rows k ++ closed_rows (cells - k))
    unfolding encode
    end_numbers =
        from_split 0 n cells
        ∙ ap₂ (λ (xs ys : List ℕ). xs ++ ys)
        (from_closed n 0 (λ j a b. at_variable j (omega arith)))
        (ap (λ (c : ℕ). encode_from n (0 + n) c S) (let z : cells ≡ k + (cells - k) = omega arith in z) ∙ from_split (0 + n) k (cells - k)
        ∙ ap₂ (λ (xs ys : List ℕ). xs ++ ys)
        (from_given k (0 + n) (λ j a b. ap S (at_cell j (omega arith)) ∙ given (j - n) (omega arith)))
        (from_closed (cells - k) (0 + n + k) (λ j a b. ap S (at_cell j (omega arith)) ∙ untaken (j - n) (omega arith))))
