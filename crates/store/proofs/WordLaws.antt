-- The lent numbers and the store that they stand for: reading a row, writing a row, clearing.
use Prim.Native.Nat.{ℕ, zero, suc, ◌+◌, ◌-◌, ◌*◌, ◌≤◌, ◌<◌}
use native.Mathlib.Omega.{arith}
use native.Mathlib.Nat.{add-zero}
use mathlib.Core.Path.{◌≡◌, refl, sym, ap, subst, ◌∙◌, fun_ext}
use mathlib.Core.Bool.{Bool, true, false}
use mathlib.Core.List.{List, [], ◌∷◌}
use lib.Dec.{ltb}
use lib.ListN.{length, get_or, replicate}
use lib.ListN as lists
use lib.Seq.{ext_get_or, get_or-set_same, get_or-set_other}
use native.Mathlib.Decide.{ℕ_discrete}
use borrow.Author.Tests.{ltb-true, ltb-false, lt-ltb, le-ltb}
use Rattle.syntax.specs.Result.{pick}
use Rattle.syntax.specs.Limits.{Limits, in_ranges, store_rows, store_numbers}
use Rattle.syntax.specs.Layout.{zeros}
use Rattle.syntax.proofs.Ranges.{ranged}
use Rattle.dynamics.specs.Values.{Location, variable, cell, Value, empty, num, owner, reference, Row, closed, given_back, open_with}
use Rattle.dynamics.specs.Store.{Store, same_location, put, value_in}
use Rattle.dynamics.specs.Encode.{state_number, kind_number, row_of, location_of, payload, triple, encode_from, encode}
use Rattle.store.specs.Words.{value_of, row_from, row_at, store_of, Inside, Leads, Tidy, as_value, as_row, value_held, row_words, Sound, SoundRow, Loaded, Written}
use Rattle.store.specs.declared.store.Value as held
use Rattle.store.specs.declared.store.Value.TheVariants as value
use Rattle.store.specs.declared.store.Row as stored
use Rattle.store.specs.declared.store.Row.TheVariants as entry
use Rattle.dynamics.proofs.StoreLaws.{same_location_law}
use Rattle.dynamics.proofs.EncodeLaws.{variable_location, cell_location, length_encode, read_field, location_row, write_row_law}

-- ---- numbers that are all 0

zero_at : (n k : ℕ) → ◌≡◌ {A = ℕ} (get_or (zeros n) k 0) 0
unfolding zeros
zero_at zero k = refl
zero_at (suc n) zero = refl
zero_at (suc n) (suc k) = zero_at n k

zeros_from : (n r k : ℕ) → encode_from n r k (λ l. closed) ≡ zeros (3 * k)
unfolding encode_from triple state_number kind_number payload zeros
zeros_from n r zero = refl
zeros_from n r (suc k) =
    let z : 3 * suc k ≡ suc (suc (suc (3 * k))) = omega arith in
    ap (λ (l : List ℕ). 0 ∷ 0 ∷ 0 ∷ l) (zeros_from n (suc r) k) ∙ ap (λ (m : ℕ). replicate m 0) (sym z)

zeros_encode : (n k : ℕ) → encode n k (λ l. closed) ≡ zeros (3 * k)
unfolding encode
zeros_encode n k = zeros_from n 0 k

-- ---- clearing, number by number

length_zeros : (n : ℕ) → length (zeros n) ≡ n
unfolding zeros
length_zeros zero = refl
length_zeros (suc n) = ap suc (length_zeros n)

pub all_zero : (l : List ℕ) (n : ℕ) → length l ≡ n → ((k : ℕ) → k < n → ◌≡◌ {A = ℕ} (get_or l k 0) 0) → l ≡ zeros n
all_zero l n e f = ext_get_or 0 l (zeros n) (e ∙ sym (length_zeros n)) (λ k h. f k (omega arith) ∙ sym (zero_at n k))

pub zero_more : (l : List ℕ) (i : ℕ) → i < length l → ((k : ℕ) → k < i → ◌≡◌ {A = ℕ} (get_or l k 0) 0) → (k : ℕ) → k < i + 1 → ◌≡◌ {A = ℕ} (get_or (lists.set l i 0) k 0) 0
zero_more l i h f k b = go (ℕ_discrete k i)
  where
    go : Dec (k ≡ i) → ◌≡◌ {A = ℕ} (get_or (lists.set l i 0) k 0) 0
    go (yes e) = ap (λ (m : ℕ). get_or (lists.set l i 0) m 0) e ∙ get_or-set_same l i 0 0 h
    go (no n) = get_or-set_other l i k 0 0 n ∙ f k (omega arith)

module _ (set : Limits) where
  -- ---- a row's number and its location

  pub inside_row : (r : ℕ) → r < store_rows set → Inside set (location_of set.variables r)
  unfolding location_of
  inside_row r h = go (ltb r set.variables) refl
    where
      go : (b : Bool) → ltb r set.variables ≡ b → Inside set (pick b (variable r) (cell (r - set.variables)))
      go true e = ltb-true r set.variables e
      go false e = let l = ltb-false r set.variables e in let z : r - set.variables < set.boxes = omega arith in z

  -- A row's number is small, whatever the set.
  pub row_small : (w : List ℕ) (r : ℕ) → Tidy set w → r < store_rows set → r < 256
  row_small w r t h = let b = ranged set t.ranges in omega arith

  inside_back : (r : ℕ) → Inside set (location_of set.variables r) → r < store_rows set
  unfolding location_of
  inside_back r h = go (ltb r set.variables) refl h
    where
      go : (b : Bool) → ltb r set.variables ≡ b → Inside set (pick b (variable r) (cell (r - set.variables))) → r < store_rows set
      go true e i = omega arith
      go false e i = omega arith

  at_row : (w : List ℕ) (r : ℕ) → r < store_rows set → store_of set w (location_of set.variables r) ≡ row_at set w r
  unfolding location_of store_of
  at_row w r h = go (ltb r set.variables) refl
    where
      go : (b : Bool) → ltb r set.variables ≡ b → store_of set w (pick b (variable r) (cell (r - set.variables))) ≡ row_at set w r
      go true e = rw e
      go false e =
          let l = ltb-false r set.variables e in
          let k : ltb (r - set.variables) set.boxes ≡ true = lt-ltb (r - set.variables) set.boxes (omega arith) in
          let z : set.variables + (r - set.variables) ≡ r = omega arith in
          rw k (ap (λ (n : ℕ). row_at set w n) z)

  location_back : (l : Location) → Inside set l → location_of set.variables (row_of set.variables l) ≡ l
  unfolding row_of
  location_back (variable x) h = variable_location set.variables x h
  location_back (cell c) h = cell_location set.variables c

  -- ---- values and rows as numbers

  value_back : (v : Value) → Leads set v → value_of set (kind_number v) (payload set.variables v) ≡ v
  unfolding value_of kind_number payload
  value_back empty h = refl
  value_back (num n) h = refl
  value_back (owner c) h = refl
  value_back (reference l) h = ap reference (location_back l h)

  row_back : (q : Row) → Leads set (value_in q) → row_from set (state_number q) (kind_number (value_in q)) (payload set.variables (value_in q)) ≡ q
  unfolding row_from state_number
  row_back closed h = refl
  row_back given_back h = refl
  row_back (open_with v) h = ap open_with (value_back v h)

  -- ---- the code's values and rows

  value_sound : (v : held.Value) → Leads set (as_value set v) → Sound set v
  value_sound value.Empty h = tt
  value_sound (value.Number n) h = tt
  value_sound (value.Owner c) h = h
  value_sound (value.Reference r) h = inside_back r h

  row_sound : (e : stored.Row) → Leads set (value_in (as_row set e)) → SoundRow set e
  row_sound entry.Closed h = tt
  row_sound entry.GivenBack h = tt
  row_sound (entry.Open v) h = value_sound v h

  pub value_leads : (v : held.Value) → Sound set v → Leads set (as_value set v)
  value_leads value.Empty h = tt
  value_leads (value.Number n) h = tt
  value_leads (value.Owner c) h = h
  value_leads (value.Reference r) h = inside_row r h

  row_leads : (e : stored.Row) → SoundRow set e → Leads set (value_in (as_row set e))
  row_leads entry.Closed h = tt
  row_leads entry.GivenBack h = tt
  row_leads (entry.Open v) h = value_leads v h

  -- The three numbers that a row of the code is written as are those of the row that it is.
  row_triple : (e : stored.Row) → triple set.variables (as_row set e) ≡ (row_words e).0 ∷ (row_words e).1 ∷ (row_words e).2 ∷ []
  unfolding triple state_number kind_number payload
  row_triple entry.Closed = refl
  row_triple entry.GivenBack = refl
  row_triple (entry.Open value.Empty) = refl
  row_triple (entry.Open (value.Number n)) = refl
  row_triple (entry.Open (value.Owner c)) = refl
  row_triple (entry.Open (value.Reference r)) = ap (λ (p : ℕ). 1 ∷ 3 ∷ p ∷ []) (location_row set.variables r)

  pub held_is : (e : stored.Row) → value_in (as_row set e) ≡ as_value set (value_held e)
  held_is entry.Closed = refl
  held_is entry.GivenBack = refl
  held_is (entry.Open v) = refl

  -- ---- reading

  module _ (w : List ℕ) (t : Tidy set w) (r : ℕ) (h : r < store_rows set) where
    field_is : (j : ℕ) → j < 3 → get_or w (3 * r + j) 0 ≡ get_or (triple set.variables (store_of set w (location_of set.variables r))) j 0
    field_is j l = ap (λ (x : List ℕ). get_or x (3 * r + j) 0) (sym t.words) ∙ read_field set.variables (store_rows set) (store_of set w) r j h l

    pub loaded : (e : stored.Row) → ((l : Limits) → as_row l e ≡ row_from l (get_or w (3 * r) 0) (get_or w (3 * r + 1) 0) (get_or w (3 * r + 2) 0)) → Loaded set w r e
    loaded e f =
        let q : store_of set w (location_of set.variables r) ≡ as_row set e = at_row w r h ∙ sym (f set) in
        record { is = q; sound = row_sound e (subst (λ (q : Row). Leads set (value_in q)) q (t.leads (location_of set.variables r))) }

  -- ---- writing

  -- A store whose rows all lie in the lent numbers.
  record Fits (S : Store) : Type 0 where
    leads : (l : Location) → Leads set (value_in (S l))
    outside : (l : Location) → (Inside set l → ⊥) → S l ≡ closed

  out_variable : (w : List ℕ) (x : ℕ) → set.variables ≤ x → store_of set w (variable x) ≡ closed
  unfolding store_of
  out_variable w x h = rw (le-ltb x set.variables h)

  pub out_cell : (w : List ℕ) (c : ℕ) → set.boxes ≤ c → store_of set w (cell c) ≡ closed
  unfolding store_of
  out_cell w c h = rw (le-ltb c set.boxes h)

  fits_tidy : (w : List ℕ) → Tidy set w → Fits (store_of set w)
  fits_tidy w t = record { leads = t.leads; outside = go }
    where
      go : (l : Location) → (Inside set l → ⊥) → store_of set w l ≡ closed
      go (variable x) h = out_variable w x (omega arith)
      go (cell c) h = out_cell w c (omega arith)

  fits_put : (S : Store) (l : Location) (q : Row) → Fits S → Inside set l → Leads set (value_in q) → Fits (put S l q)
  unfolding put
  fits_put S l q f i h = record { leads = λ k. leading k (same_location l k); outside = λ k n. out k n (same_location l k) refl }
    where
      leading : (k : Location) (b : Bool) → Leads set (value_in (pick b q (S k)))
      leading k true = h
      leading k false = f.leads k

      out : (k : Location) → (Inside set k → ⊥) → (b : Bool) → same_location l k ≡ b → pick b q (S k) ≡ closed
      out k n true e = absurd (n (subst (Inside set) (same_location_law l k e) i))
      out k n false e = f.outside k n

  module _ (S : Store) (f : Fits S) where
    row_of_law : (r : ℕ) (l : Location) → r < store_rows set → location_of set.variables r ≡ l → row_at set (encode set.variables (store_rows set) S) r ≡ S l
    unfolding triple
    row_of_law r l h e =
        let a : get_or (encode set.variables (store_rows set) S) (3 * r) 0 ≡ state_number (S (location_of set.variables r)) = ap (λ (n : ℕ). get_or (encode set.variables (store_rows set) S) n 0) (sym (add-zero (3 * r))) ∙ read_field set.variables (store_rows set) S r 0 h (omega arith) in
        rw (a, read_field set.variables (store_rows set) S r 1 h (omega arith), read_field set.variables (store_rows set) S r 2 h (omega arith), e) (row_back (S l) (f.leads l))

    store_at : (l : Location) → store_of set (encode set.variables (store_rows set) S) l ≡ S l
    unfolding store_of
    store_at (variable x) = go (ltb x set.variables) refl
      where
        go : (b : Bool) → ltb x set.variables ≡ b → pick b (row_at set (encode set.variables (store_rows set) S) x) closed ≡ S (variable x)
        go true e = let h = ltb-true x set.variables e in row_of_law x (variable x) (omega arith) (variable_location set.variables x h)
        go false e = let h = ltb-false x set.variables e in sym (f.outside (variable x) (λ i. omega arith))
    store_at (cell c) = go (ltb c set.boxes) refl
      where
        go : (b : Bool) → ltb c set.boxes ≡ b → pick b (row_at set (encode set.variables (store_rows set) S) (set.variables + c)) closed ≡ S (cell c)
        go true e = let h = ltb-true c set.boxes e in row_of_law (set.variables + c) (cell c) (omega arith) (cell_location set.variables c)
        go false e = let h = ltb-false c set.boxes e in sym (f.outside (cell c) (λ i. omega arith))

    store_back : store_of set (encode set.variables (store_rows set) S) ≡ S
    store_back = fun_ext store_at

    tidy_encoded : in_ranges set ≡ true → Tidy set (encode set.variables (store_rows set) S)
    unfolding store_numbers
    tidy_encoded i = record {
      ranges = i;
      long = length_encode set.variables (store_rows set) S;
      words = ap (encode set.variables (store_rows set)) store_back;
      leads = λ l. subst (λ (q : Row). Leads set (value_in q)) (sym (store_at l)) (f.leads l);
    }

  pub written : (w : List ℕ) (r : ℕ) (e : stored.Row) (w' : List ℕ) → Tidy set w → r < store_rows set → SoundRow set e → w' ≡ lists.set (lists.set (lists.set w (3 * r) (row_words e).0) (3 * r + 1) (row_words e).1) (3 * r + 2) (row_words e).2 → Written set w r e w'
  unfolding triple
  written w r e w' t h i q =
      let S : Store = put (store_of set w) (location_of set.variables r) (as_row set e) in
      let f : Fits S = fits_put (store_of set w) (location_of set.variables r) (as_row set e) (fits_tidy w t) (inside_row r h) (row_leads e i) in
      let x = row_triple e in
      let a : state_number (as_row set e) ≡ (row_words e).0 = cc in
      let b : kind_number (value_in (as_row set e)) ≡ (row_words e).1 = cc in
      let c : payload set.variables (value_in (as_row set e)) ≡ (row_words e).2 = cc in
      let z : w' ≡ encode set.variables (store_rows set) S =
      q ∙ sym (rw (a, b, c, t.words)) ∙ write_row_law set.variables (store_rows set) (store_of set w) r (as_row set e) h in
      record { tidy = subst (Tidy set) (sym z) (tidy_encoded S f t.ranges); is = ap (store_of set) z ∙ store_back S f }

  -- ---- a cleared store

  zero_row : (n r : ℕ) → row_at set (zeros n) r ≡ closed
  unfolding row_from
  zero_row n r = ap (λ (m : ℕ). row_from set m (get_or (zeros n) (3 * r + 1) 0) (get_or (zeros n) (3 * r + 2) 0)) (zero_at n (3 * r))

  zero_store : (n : ℕ) (l : Location) → store_of set (zeros n) l ≡ closed
  unfolding store_of
  zero_store n (variable x) = rw (zero_row n x) (same (ltb x set.variables))
    where
      same : (b : Bool) → pick b closed closed ≡ closed
      same true = refl
      same false = refl
  zero_store n (cell c) = rw (zero_row n (set.variables + c)) (same (ltb c set.boxes))
    where
      same : (b : Bool) → pick b closed closed ≡ closed
      same true = refl
      same false = refl

  closed_fits : Fits (λ l. closed)
  closed_fits = record { leads = λ l. tt; outside = λ l h. refl }

  pub cleared_store : (w : List ℕ) → w ≡ zeros (store_numbers set) → store_of set w ≡ (λ l. closed)
  cleared_store w e = ap (store_of set) e ∙ fun_ext (zero_store (store_numbers set))

  pub cleared_tidy : (w : List ℕ) → in_ranges set ≡ true → w ≡ zeros (store_numbers set) → Tidy set w
  unfolding store_numbers
  cleared_tidy w i e = subst (Tidy set) (zeros_encode set.variables (store_rows set) ∙ sym e) (tidy_encoded (λ l. closed) closed_fits i)
