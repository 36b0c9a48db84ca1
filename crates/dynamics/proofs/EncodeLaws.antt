-- Reading and writing a row of the lent numbers.
use Prim.Native.Nat.{ℕ, zero, suc, ◌+◌, ◌-◌, ◌*◌, ◌/◌, ◌<◌}
use native.Mathlib.Omega.{arith}
use native.Mathlib.Decide.{ℕ_discrete}
use mathlib.Core.Path.{◌≡◌, refl, sym, ap, ◌∙◌}
use mathlib.Core.Logic.{◌≢◌}
use mathlib.Core.Bool.{Bool, true, false}
use mathlib.Core.List.{List, ◌∷◌, ◌++◌}
use lib.ListN.{length, get_or, set, length-set}
use lib.Seq.{ext_get_or, get_or-set_same, get_or-set_other}
use lib.Dec.{ltb}
use borrow.Author.Tests.{ltb-false, lt-ltb, le-ltb}
use Rattle.syntax.specs.Result.{pick}
use Rattle.dynamics.specs.Values.{variable, cell, Row}
use Rattle.dynamics.specs.Store.{Store, put, value_in}
use Rattle.dynamics.specs.Encode.{state_number, kind_number, row_of, location_of, payload, triple, encode_from, encode}
use Rattle.dynamics.proofs.StoreLaws.{put_same, put_other}

module _ (n : ℕ) where
  -- ---- a row's number and its location

  pub variable_location : (x : ℕ) → x < n → location_of n x ≡ variable x
  unfolding location_of
  variable_location x h = rw (lt-ltb x n h)

  pub cell_location : (c : ℕ) → location_of n (n + c) ≡ cell c
  unfolding location_of
  cell_location c = rw (le-ltb (n + c) n (omega arith)) (ap cell (omega arith))

  pub location_row : (r : ℕ) → row_of n (location_of n r) ≡ r
  unfolding row_of location_of
  location_row r = go (ltb r n) refl
    where
      go : (b : Bool) → ltb r n ≡ b → row_of n (pick b (variable r) (cell (r - n))) ≡ r
      go true e = refl
      go false e = let h = ltb-false r n e in omega arith

  -- ---- reading

  length_from : (r k : ℕ) (S : Store) → length (encode_from n r k S) ≡ 3 * k
  unfolding encode_from triple
  length_from r zero S = refl
  length_from r (suc k) S = let z = length_from (suc r) k S in omega arith

  pub length_encode : (rows : ℕ) (S : Store) → length (encode n rows S) ≡ 3 * rows
  unfolding encode
  length_encode rows S = length_from 0 rows S

  first : (w : Row) (xs : List ℕ) (j : ℕ) → j < 3 → get_or (triple n w ++ xs) j 0 ≡ get_or (triple n w) j 0
  unfolding triple
  first w xs zero h = refl
  first w xs (suc zero) h = refl
  first w xs (suc (suc zero)) h = refl
  first w xs (suc (suc (suc j))) h = absurd (omega arith)

  later : (w : Row) (xs : List ℕ) (j : ℕ) → get_or (triple n w ++ xs) (3 + j) 0 ≡ get_or xs j 0
  unfolding triple
  later w xs j =
      ap (λ (i : ℕ). get_or (state_number w ∷ kind_number (value_in w) ∷ payload n (value_in w) ∷ xs) i 0) (let z : 3 + j ≡ suc (suc (suc j)) = omega arith in z)

  read_from : (m r k j : ℕ) (S : Store) → k < m → j < 3 → get_or (encode_from n r m S) (3 * k + j) 0 ≡ get_or (triple n (S (location_of n (r + k)))) j 0
  unfolding encode_from
  read_from zero r k j S h l = absurd (omega arith)
  read_from (suc m) r zero j S h l =
      ap (λ (i : ℕ). get_or (encode_from n r (suc m) S) i 0) (let z : 3 * 0 + j ≡ j = omega arith in z)
      ∙ first (S (location_of n r)) (encode_from n (suc r) m S) j l
      ∙ ap (λ (i : ℕ). get_or (triple n (S (location_of n i))) j 0) (let z : r ≡ r + 0 = omega arith in z)
  read_from (suc m) r (suc k) j S h l =
      ap (λ (i : ℕ). get_or (encode_from n r (suc m) S) i 0) (let z : 3 * suc k + j ≡ 3 + (3 * k + j) = omega arith in z)
      ∙ later (S (location_of n r)) (encode_from n (suc r) m S) (3 * k + j)
      ∙ read_from m (suc r) k j S (omega arith) l
      ∙ ap (λ (i : ℕ). get_or (triple n (S (location_of n i))) j 0) (let z : suc r + k ≡ r + suc k = omega arith in z)

  -- A field of row r: 0 the state, 1 the value kind, 2 the payload.
  pub read_field : (rows : ℕ) (S : Store) (r j : ℕ) → r < rows → j < 3
      → get_or (encode n rows S) (3 * r + j) 0 ≡ get_or (triple n (S (location_of n r))) j 0
  unfolding encode
  read_field rows S r j h l =
      read_from rows 0 r j S h l ∙ ap (λ (i : ℕ). get_or (triple n (S (location_of n i))) j 0) (let z : 0 + r ≡ r = omega arith in z)

  -- Any number of the list, by its row and field.
  read_at : (rows : ℕ) (S : Store) (k : ℕ) → k < 3 * rows
      → get_or (encode n rows S) k 0 ≡ get_or (triple n (S (location_of n (k / 3)))) (k - 3 * (k / 3)) 0
  read_at rows S k h =
      ap (λ (i : ℕ). get_or (encode n rows S) i 0) (let z : k ≡ 3 * (k / 3) + (k - 3 * (k / 3)) = omega arith in z)
      ∙ read_field rows S (k / 3) (k - 3 * (k / 3)) (omega arith) (omega arith)

  -- ---- writing

  abbrev pub write_row : List ℕ → ℕ → Row → List ℕ
  write_row l r w = set (set (set l (3 * r) (state_number w)) (3 * r + 1) (kind_number (value_in w))) (3 * r + 2) (payload n (value_in w))

  module _ (rows : ℕ) (S : Store) (r : ℕ) (w : Row) (h : r < rows) where
    abbrev before : List ℕ
    before = encode n rows S

    abbrev after : List ℕ
    after = encode n rows (put S (location_of n r) w)

    -- With the first number written, and with two.
    abbrev one : List ℕ
    one = set before (3 * r) (state_number w)

    abbrev two : List ℕ
    two = set one (3 * r + 1) (kind_number (value_in w))

    long₁ : length one ≡ 3 * rows
    long₁ = length-set before (3 * r) (state_number w) ∙ length_encode rows S

    long₂ : length two ≡ 3 * rows
    long₂ = length-set one (3 * r + 1) (kind_number (value_in w)) ∙ long₁

    long₃ : length (write_row before r w) ≡ 3 * rows
    long₃ = length-set two (3 * r + 2) (payload n (value_in w)) ∙ long₂

    inside : (j k : ℕ) → k ≡ 3 * r + j → j < 3 → get_or after k 0 ≡ get_or (triple n w) j 0
    inside j k e l =
        ap (λ (i : ℕ). get_or after i 0) e ∙ read_field rows (put S (location_of n r) w) r j h l
        ∙ ap (λ (q : Row). get_or (triple n q) j 0) (put_same S (location_of n r) w)

    outside : (k : ℕ) → k < 3 * rows → k / 3 ≢ r → get_or before k 0 ≡ get_or after k 0
    outside k l q =
        read_at rows S k l
        ∙ ap (λ (x : Row). get_or (triple n x) (k - 3 * (k / 3)) 0)
        (sym (put_other S (location_of n r) w (location_of n (k / 3)) (λ e. q (sym (location_row (k / 3)) ∙ ap (row_of n) e ∙ location_row r))))
        ∙ sym (read_at rows (put S (location_of n r) w) k l)

    same : (k : ℕ) → k < 3 * rows → Dec (k ≡ 3 * r) → Dec (k ≡ 3 * r + 1) → Dec (k ≡ 3 * r + 2) → get_or (write_row before r w) k 0 ≡ get_or after k 0
    unfolding triple
    same k l x y (yes e) =
        ap (λ (i : ℕ). get_or (write_row before r w) i 0) e ∙ get_or-set_same two (3 * r + 2) (payload n (value_in w)) 0 (omega (arith, long₂)) ∙ sym (inside 2 k e (omega arith))
    same k l x (yes e) (no z) =
        get_or-set_other two (3 * r + 2) k (payload n (value_in w)) 0 z
        ∙ ap (λ (i : ℕ). get_or two i 0) e
        ∙ get_or-set_same one (3 * r + 1) (kind_number (value_in w)) 0 (omega (arith, long₁)) ∙ sym (inside 1 k e (omega arith))
    same k l (yes e) (no y) (no z) =
        get_or-set_other two (3 * r + 2) k (payload n (value_in w)) 0 z ∙ get_or-set_other one (3 * r + 1) k (kind_number (value_in w)) 0 y
        ∙ ap (λ (i : ℕ). get_or one i 0) e
        ∙ get_or-set_same before (3 * r) (state_number w) 0 (omega (arith, length_encode rows S)) ∙ sym (inside 0 k (omega arith) (omega arith))
    same k l (no x) (no y) (no z) =
        get_or-set_other two (3 * r + 2) k (payload n (value_in w)) 0 z ∙ get_or-set_other one (3 * r + 1) k (kind_number (value_in w)) 0 y
        ∙ get_or-set_other before (3 * r) k (state_number w) 0 x ∙ outside k l (λ e. x (omega arith))

    -- Writing the three numbers of a row is `put`.
    pub write_row_law : write_row before r w ≡ after
    write_row_law = ext_get_or 0 (write_row before r w) after (long₃ ∙ sym (length_encode rows (put S (location_of n r) w)))
        (λ k l. same k (omega (arith, long₃)) (ℕ_discrete k (3 * r)) (ℕ_discrete k (3 * r + 1)) (ℕ_discrete k (3 * r + 2)))
