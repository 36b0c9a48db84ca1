-- The byte reader's code judges a term by indices into what is left, `specs/ByteParts.antt`; the definition goes from step to step,
-- `specs/Reader.antt`.
-- Here the two are joined: the operands, what stands at a kind byte, and so a term up to its inner terms.
use Prim.Native.Nat.{ℕ, zero, suc, ◌+◌, ◌-◌, ◌≤◌, ◌<◌}
use native.Mathlib.Omega.{arith}
use native.Mathlib.Nat.{add_assoc, le_of_eq}
use native.Mathlib.Numerals.{add-one}
use mathlib.Core.Path.{◌≡◌, refl, sym, ap, subst, ◌∙◌}
use mathlib.Core.Bool.{Bool, true, false, not, ◌&&◌, ◌||◌, not-not}
use mathlib.Core.Option.{some}
use mathlib.Core.List.{List, [], ◌∷◌}
use lib.ListN.{length, get_or, drop, drop_of_length-le}
use lib.Seq.{drop-cons, drop-drop}
use lib.Dec.{leb, ltb, eqb}
use borrow.Author.Tests.{leb-true, leb-false, ltb-true, ltb-false, eqb-true, eqb-false, le-leb, lt-leb, lt-ltb, le-ltb}
use Rattle.syntax.specs.Result.{Result, ok, err, Refusal, pick}
use Rattle.syntax.specs.Limits.{Limits}
use Rattle.syntax.specs.Kinds.{Kind, k_block, byte_of, kind_of, Field, word, until, fields}
use Rattle.syntax.specs.Layout.{in_bytes}
use Rattle.syntax.specs.Reader.{Cursor, Reads, ◌>>=◌, done, place_in, expect, peek, skip, next, ranged, field, operands, is, boxes_of, ended, rest_of_row, opening, built, term}
use Rattle.syntax.specs.Within.{Ranges}
use Rattle.syntax.specs.Parts.{cursor, known_in, IsKind, fields_of}
use Rattle.syntax.specs.Parts.{place_fields}
use Rattle.syntax.specs.ByteParts.{opening_number, field_number, word_at, on_number, judged_fields, values_at, one_field}
use Rattle.syntax.proofs.Answers.{go_on, stops}
use Rattle.syntax.proofs.KindBytes.{found}
use Rattle.syntax.proofs.KnownKinds.{known_is, known_some, known_none, fields_of_law}
use Rattle.syntax.proofs.NumberLaws.{number_fine}
use Rattle.syntax.proofs.TermSteps.{peek_ok, peek_err, expect_ok, expect_err, opening_12, opening_13, opening_18, opening_16, opening_ok, term_refused, term_deep, term_boxes, past, term_operands_refused, term_built}

-- What the reader answers where the operands, in the bytes t from offset at on, are judged so.
unfoldable pub on_fields : Result Refusal ℕ → List ℕ → List ℕ → ℕ → ℕ → ℕ → Result Refusal (List ℕ × Cursor)
on_fields (ok used) vs t at n b = ok (vs, cursor (drop used t) (at + used) n b)
on_fields (err (m, p)) vs t at n b = err (m, p)

-- The steps of the reader at index j of t.
module _ (t : List ℕ) (at n b : ℕ) where
  abbrev here : ℕ → Cursor
  here j = cursor (drop j t) (at + j) n b

  module _ (j : ℕ) where
    peek_here : j < length t → peek in_bytes (here j) ≡ ok (get_or t j 0, here j)
    peek_here h = peek_ok in_bytes (here j) _ _ (drop-cons t j 0 h)

    peek_end : length t ≤ j → peek in_bytes (here j) ≡ err (12, at + j)
    unfolding place_in
    peek_end h = peek_err in_bytes (here j) (drop_of_length-le t h)

    skip_here : (i : ℕ) → i ≡ j + 1 → skip (here j) ≡ ok (tt, here i)
    unfolding skip
    skip_here i e = rw (e, drop-drop 1 j t, ← add-one (at + j), add_assoc)

    -- The next number, with the index i behind it, and what follows.
    next_full : {A : Type 0} (f : ℕ → Reads A) (r : Result Refusal (A × Cursor)) (i : ℕ) → i ≡ j + 1 → j < length t → f (get_or t j 0) (here i) ≡ r → (next in_bytes >>= f) (here j) ≡ r
    unfolding next done
    next_full f r i e h q =
        go_on (next in_bytes) f (here j) (here i) (get_or t j 0) r
        (go_on (peek in_bytes) _ (here j) (here j) (get_or t j 0) _ (peek_here h)
        (go_on skip _ (here j) (here i) tt _ (skip_here i e) refl)) q

    -- Where what follows finds an end, so does the whole: at the length of t.
    next_short : {A : Type 0} (f : ℕ → Reads A) (i : ℕ) → i ≡ j + 1 → j ≤ length t → (j < length t → f (get_or t j 0) (here i) ≡ err (12, at + length t)) → (next in_bytes >>= f) (here j) ≡ err (12, at + length t)
    unfolding next
    next_short f i e h q = go (ltb j (length t)) refl
      where
        go : (x : Bool) → ltb j (length t) ≡ x → (next in_bytes >>= f) (here j) ≡ err (12, at + length t)
        go true l = next_full f _ i e (ltb-true _ _ l) (q (ltb-true _ _ l))
        go false l =
            let z : j ≡ length t = omega (arith, ltb-false j (length t) l) in
            stops (next in_bytes) f (here j) _ (stops (peek in_bytes) _ (here j) _ (rw (← z) (peek_end (omega arith))))

  word_full : (j : ℕ) → j + 4 ≤ length t → field in_bytes word (here j) ≡ ok (word_at t j, here (j + 4))
  unfolding field done
  word_full j h =
      next_full j _ _ (j + 1) refl (omega arith)
      (next_full (j + 1) _ _ (j + 2) (omega arith) (omega arith)
      (next_full (j + 2) _ _ (j + 3) (omega arith) (omega arith)
      (next_full (j + 3) _ _ (j + 4) (omega arith) (omega arith) refl)))

  word_short : (j : ℕ) → j ≤ length t → length t < j + 4 → field in_bytes word (here j) ≡ err (12, at + length t)
  unfolding field
  word_short j h l =
      next_short j _ (j + 1) refl h λ h₁.
      next_short (j + 1) _ (j + 2) (omega arith) (omega arith) λ h₂.
      next_short (j + 2) _ (j + 3) (omega arith) (omega arith) λ h₃.
      next_short (j + 3) _ (j + 4) (omega arith) (omega arith) λ h₄. absurd (omega arith)

  module _ (lo hi j : ℕ) where
    ranged_ok : j < length t → (leb lo (get_or t j 0) && ltb (get_or t j 0) hi) ≡ true → ranged in_bytes lo hi (here j) ≡ ok (get_or t j 0, here (j + 1))
    unfolding ranged done
    ranged_ok h q =
        go_on (peek in_bytes) _ (here j) (here j) (get_or t j 0) _ (peek_here j h)
        (go_on (expect in_bytes (λ s. leb lo (get_or t j 0) && ltb (get_or t j 0) hi) 14) _ (here j) (here j) tt _ (expect_ok in_bytes _ 14 (here j) q)
        (go_on skip _ (here j) (here (j + 1)) tt _ (skip_here j (j + 1) refl) refl))

    ranged_out : j < length t → (leb lo (get_or t j 0) && ltb (get_or t j 0) hi) ≡ false → ranged in_bytes lo hi (here j) ≡ err (14, at + j)
    unfolding ranged place_in
    ranged_out h q =
        go_on (peek in_bytes) _ (here j) (here j) (get_or t j 0) _ (peek_here j h)
        (stops (expect in_bytes (λ s. leb lo (get_or t j 0) && ltb (get_or t j 0) hi) 14) _ (here j) _ (expect_err in_bytes _ 14 (here j) q))

    ranged_end : length t ≤ j → ranged in_bytes lo hi (here j) ≡ err (12, at + j)
    unfolding ranged
    ranged_end h = stops (peek in_bytes) _ (here j) _ (peek_end j h)

  -- One operand and those after it.
  with_rest : (f : Field) (fs : List Field) (v : ℕ) (vs : List ℕ) (j i : ℕ) (rest : Result Refusal ℕ) → field in_bytes f (here j) ≡ ok (v, here i) → operands in_bytes fs (here i) ≡ on_fields rest vs t at n b → operands in_bytes (f ∷ fs) (here j) ≡ on_fields rest (v ∷ vs) t at n b
  unfolding operands on_fields done
  with_rest f fs v vs j i (ok used) e q =
      go_on (field in_bytes f) _ (here j) (here i) v _ e (go_on (operands in_bytes fs) _ (here i) (here used) vs _ q refl)
  with_rest f fs v vs j i (err (m, p)) e q =
      go_on (field in_bytes f) _ (here j) (here i) v _ e (stops (operands in_bytes fs) _ (here i) (m, p) q)

  refused_first : (f : Field) (fs : List Field) (j : ℕ) (e : Refusal) → field in_bytes f (here j) ≡ err e → operands in_bytes (f ∷ fs) (here j) ≡ err e
  unfolding operands
  refused_first f fs j e q = stops (field in_bytes f) _ (here j) e q

  abbrev Are : List Field → Type 0
  Are fs = (j : ℕ) → j ≤ length t → operands in_bytes fs (here j) ≡ on_fields (judged_fields fs t at j) (values_at fs t j) t at n b

  word_are : (fs : List Field) → Are fs → Are (word ∷ fs)
  unfolding judged_fields values_at on_fields
  word_are fs ih j h = go (ltb (length t) (j + 4)) refl
    where
      go : (x : Bool) → ltb (length t) (j + 4) ≡ x → operands in_bytes (word ∷ fs) (here j) ≡ on_fields (pick x (err (12, (at + length t))) (judged_fields fs t at (j + 4))) (values_at (word ∷ fs) t j) t at n b
      go true l = refused_first word fs j _ (word_short j h (ltb-true _ _ l))
      go false l = with_rest word fs _ _ j (j + 4) (judged_fields fs t at (j + 4)) (word_full j (ltb-false _ _ l)) (ih (j + 4) (ltb-false _ _ l))

  until_are : (lo hi : ℕ) (fs : List Field) → Are fs → Are (until lo hi ∷ fs)
  unfolding judged_fields values_at on_fields on_number field_number field
  until_are lo hi fs ih j h = go (leb (length t) j) (leb lo (get_or t j 0) && ltb (get_or t j 0) hi) refl refl
    where
      go : (x y : Bool) → leb (length t) j ≡ x → (leb lo (get_or t j 0) && ltb (get_or t j 0) hi) ≡ y → operands in_bytes (until lo hi ∷ fs) (here j) ≡ on_fields (on_number (pick x 12 (pick y 0 14)) (at + j) (judged_fields fs t at (j + 1))) (values_at (until lo hi ∷ fs) t j) t at n b
      go true y l q = refused_first (until lo hi) fs j _ (ranged_end lo hi j (leb-true _ _ l))
      go false true l q =
          with_rest (until lo hi) fs _ _ j (j + 1) (judged_fields fs t at (j + 1)) (ranged_ok lo hi j (leb-false _ _ l) q)
          (ih (j + 1) (omega (arith, leb-false (length t) j l)))
      go false false l q = refused_first (until lo hi) fs j _ (ranged_out lo hi j (leb-false _ _ l) q)

  -- The operands from index j on: their values and where they end, or the refusal.
  pub operands_are : (fs : List Field) (j : ℕ) → j ≤ length t → operands in_bytes fs (cursor (drop j t) (at + j) n b) ≡ on_fields (judged_fields fs t at j) (values_at fs t j) t at n b
  unfolding operands done judged_fields values_at on_fields
  operands_are [] j h = refl
  operands_are (word ∷ fs) j h = word_are fs (operands_are fs) j h
  operands_are (until lo hi ∷ fs) j h = until_are lo hi fs (operands_are fs) j h

-- The number of a refusal: where there is one, it is the answer, and where there is none, the byte is there and in its range.
pub number_zero : (t : List ℕ) (j lo hi : ℕ) → field_number t j lo hi ≡ 0 → (j < length t) × (lo ≤ get_or t j 0) × (get_or t j 0 < hi)
unfolding field_number
number_zero t j lo hi = go (leb (length t) j) (leb lo (get_or t j 0)) (ltb (get_or t j 0) hi) refl refl refl
  where
    go : (x y z : Bool) → leb (length t) j ≡ x → leb lo (get_or t j 0) ≡ y → ltb (get_or t j 0) hi ≡ z → pick {A = ℕ} x 12 (pick (y && z) 0 14) ≡ 0 → (j < length t) × (lo ≤ get_or t j 0) × (get_or t j 0 < hi)
    go true y z l a b e = absurd (omega arith)
    go false true true l a b e = (leb-false _ _ l, leb-true _ _ a, ltb-true _ _ b)
    go false true false l a b e = absurd (omega arith)
    go false false z l a b e = absurd (omega arith)

-- What it says of operands that they are judged fine.
module _ (t : List ℕ) (at : ℕ) where
  word_fine : (fs : List Field) (j used : ℕ) → judged_fields (word ∷ fs) t at j ≡ ok used → (j + 4 ≤ length t) × (judged_fields fs t at (j + 4) ≡ ok used)
  unfolding judged_fields
  word_fine fs j used = go (ltb (length t) (j + 4)) refl
    where
      go : (x : Bool) → ltb (length t) (j + 4) ≡ x → pick x (err (12, (at + length t))) (judged_fields fs t at (j + 4)) ≡ ok used → (j + 4 ≤ length t) × (judged_fields fs t at (j + 4) ≡ ok used)
      go true l e = let z : ◌≡◌ {A = ℕ} 0 1 = cc in absurd (omega arith)
      go false l e = (ltb-false _ _ l, e)

  until_fine : (lo hi : ℕ) (fs : List Field) (j used : ℕ) → judged_fields (until lo hi ∷ fs) t at j ≡ ok used → (j < length t) × (lo ≤ get_or t j 0) × (get_or t j 0 < hi) × (judged_fields fs t at (j + 1) ≡ ok used)
  unfolding judged_fields
  until_fine lo hi fs j used e =
      let q = number_fine _ _ used _ e in
      let r = number_zero t j lo hi q.0 in (r.0, r.1, r.2, q.1)

  pub fields_within : (fs : List Field) (j used : ℕ) → judged_fields fs t at j ≡ ok used → j ≤ length t → (j ≤ used) × (used ≤ length t)
  unfolding judged_fields
  fields_within [] j used e h = let z : j ≡ used = cc in (omega arith, omega arith)
  fields_within (word ∷ fs) j used e h =
      let q = word_fine fs j used e in
      let r = fields_within fs (j + 4) used q.1 q.0 in (omega arith, r.1)
  fields_within (until lo hi ∷ fs) j used e h =
      let q = until_fine lo hi fs j used e in
      let r = fields_within fs (j + 1) used q.3 (omega arith) in (omega arith, r.1)

  pub one_range : (lo hi j used : ℕ) → judged_fields (one_field lo hi) t at j ≡ ok used → (lo ≤ get_or t j 0) × (get_or t j 0 < hi)
  one_range lo hi j used e = let q = until_fine lo hi [] j used e in (q.1, q.2)

  pub place_within : (nv j used : ℕ) → judged_fields (place_fields nv) t at j ≡ ok used → j + 1 < length t
  place_within nv j used e = (until_fine 0 9 [] (j + 1) used (until_fine 0 nv _ j used e).3).0

  -- Words need the bound of a byte, which the type of a slice gives.
  pub values_range : ((k : ℕ) → get_or t k 0 < 256) → (fs : List Field) (j used : ℕ) → judged_fields fs t at j ≡ ok used → Ranges fs (values_at fs t j)
  unfolding values_at
  values_range bytes [] j used e = tt
  values_range bytes (word ∷ fs) j used e =
      (omega (arith, bytes j, bytes (j + 1), bytes (j + 2), bytes (j + 3)), values_range bytes fs (j + 4) used (word_fine fs j used e).1)
  values_range bytes (until lo hi ∷ fs) j used e =
      let q = until_fine lo hi fs j used e in
      ((q.1, q.2), values_range bytes fs (j + 1) used q.3)

-- A kind byte at which nothing is refused.
pub record Clear (l : Limits) (v levels : ℕ) (outer : Bool) (t : List ℕ) (at n b : ℕ) : Type 0 where
  pub k : Kind
  pub kind : kind_of v (get_or t 0 0) ≡ some k
  pub byte : byte_of k ≡ get_or t 0 0
  pub is_kind : IsKind (get_or t 0 0)
  pub bytes : 0 < length t
  pub room : n < l.terms
  pub deep : 0 < levels
  pub few : leb (b + boxes_of k) l.boxes ≡ true
  pub opens : opening l v in_bytes outer (cursor t at n b) ≡ ok (k, cursor t at n b)

-- The tests of `opening` and `term`, in the code's words.
module _ (l : Limits) (x : ℕ) (k : Kind) (e : byte_of k ≡ x) where
  block_where_asked : (outer : Bool) → (not outer || is k k_block) ≡ not (outer && not (eqb x 11))
  unfolding is byte_of
  block_where_asked false = refl
  block_where_asked true = rw e (sym (not-not (eqb x 11)))

  boxes_left : (b : ℕ) → b ≤ l.boxes → leb (b + boxes_of k) l.boxes ≡ not (eqb x 7 && leb l.boxes b)
  unfolding boxes_of is byte_of
  boxes_left b h = rw e (go (eqb x 7) (leb l.boxes b) refl)
    where
      go : (y z : Bool) → leb l.boxes b ≡ z → leb (b + pick y 1 0) l.boxes ≡ not (y && z)
      go true true q = lt-leb (b + 1) l.boxes (omega (arith, leb-true l.boxes b q))
      go true false q = le-leb (b + 1) l.boxes (omega (arith, leb-false l.boxes b q))
      go false z q = le-leb (b + 0) l.boxes (omega arith)

module _ (l : Limits) (v levels : ℕ) (outer : Bool) (t : List ℕ) (at n b : ℕ) (fits : b ≤ l.boxes) where
  abbrev x : ℕ
  x = get_or t 0 0

  abbrev s : Cursor
  s = cursor t at n b

  -- What the number of the refusal at a kind byte says of the term.
  abbrev Opened : ℕ → Type 0
  Opened zero = Clear l v levels outer t at n b
  Opened (suc m) = term l v in_bytes levels outer s ≡ err (suc m, at)

  no_bytes : length t ≡ 0 → Opened 12
  unfolding place_in
  no_bytes h = term_refused l v in_bytes outer s levels _ (opening_12 l v in_bytes outer s (drop_of_length-le t (le_of_eq h)))

  module _ (full : 0 < length t) where
    starts : t ≡ x ∷ drop 1 t
    starts = drop-cons t 0 0 full

    unknown : known_in v x ≡ false → Opened 13
    unfolding place_in ended
    unknown h = term_refused l v in_bytes outer s levels _ (opening_13 l v in_bytes outer s x _ starts refl (known_none x v h))

    module _ (known : IsKind x) (k : Kind) (h : kind_of v x ≡ some k) where
      asked : (p : Bool) → (outer && not (eqb x 11)) ≡ p → (not outer || is k k_block) ≡ not p
      asked p e = block_where_asked l x k (found v x k h) outer ∙ ap not e

      left : (p : Bool) → (eqb x 7 && leb l.boxes b) ≡ p → leb (b + boxes_of k) l.boxes ≡ not p
      left p e = boxes_left l x k (found v x k h) b fits ∙ ap not e

      opens : (outer && not (eqb x 11)) ≡ false → leb l.terms n ≡ false → opening l v in_bytes outer s ≡ ok (k, s)
      opens e₁ e₂ = opening_ok l v in_bytes outer s x _ starts k h (asked false e₁) (lt-ltb n l.terms (leb-false l.terms n e₂))

      -- The tests for 18, 16, 15 and 17.
      at_kind : (p q r u : Bool) → (outer && not (eqb x 11)) ≡ p → leb l.terms n ≡ q → eqb levels 0 ≡ r → (eqb x 7 && leb l.boxes b) ≡ u → Opened (pick p 18 (pick q 16 (pick r 15 (pick u 17 0))))
      unfolding place_in
      at_kind true q r u e₁ e₂ e₃ e₄ = term_refused l v in_bytes outer s levels _ (opening_18 l v in_bytes outer s x _ starts k h (asked true e₁))
      at_kind false true r u e₁ e₂ e₃ e₄ =
          term_refused l v in_bytes outer s levels _
          (opening_16 l v in_bytes outer s x _ starts k h (asked false e₁) (le-ltb n l.terms (leb-true l.terms n e₂)))
      at_kind false false true u e₁ e₂ e₃ e₄ = rw (eqb-true levels 0 e₃) (term_deep l v in_bytes outer s k (opens e₁ e₂))
      at_kind false false false true e₁ e₂ e₃ e₄ =
          subst (λ (d : ℕ). term l v in_bytes d outer s ≡ err (17, at)) (omega (arith, eqb-false levels 0 e₃))
          (term_boxes l v in_bytes outer s k (opens e₁ e₂) (levels - 1) (left true e₄))
      at_kind false false false false e₁ e₂ e₃ e₄ =
          record {
            k = k;
            kind = h;
            byte = found v x k h;
            is_kind = known;
            bytes = full;
            room = leb-false l.terms n e₂;
            deep = omega (arith, eqb-false levels 0 e₃);
            few = left false e₄;
            opens = opens e₁ e₂;
          }

  opening_is : Opened (opening_number l v levels outer t n b)
  unfolding opening_number
  opening_is = go (eqb (length t) 0) (known_in v x) refl refl
    where
      go : (p q : Bool) → eqb (length t) 0 ≡ p → known_in v x ≡ q → Opened (pick p 12 (pick (not q) 13 (pick (outer && not (eqb x 11)) 18 (pick (leb l.terms n) 16 (pick (eqb levels 0) 15 (pick (eqb x 7 && leb l.boxes b) 17 0))))))
      go true q e₁ e₂ = no_bytes (eqb-true _ _ e₁)
      go false false e₁ e₂ = unknown (omega (arith, eqb-false (length t) 0 e₁)) e₂
      go false true e₁ e₂ =
          let o = known_some x v e₂ in
          at_kind (omega (arith, eqb-false (length t) 0 e₁)) (known_is x v e₂).0 o.0 o.1 (outer && not (eqb x 11)) (leb l.terms n) (eqb levels 0) (eqb x 7 && leb l.boxes b) refl refl refl refl

  -- The code's number of a refusal at a kind byte is the reader's, and where there is none, the term goes on with its operands.
  pub opening_refused : (m : ℕ) → opening_number l v levels outer t n b ≡ suc m → term l v in_bytes levels outer (cursor t at n b) ≡ err (suc m, at)
  opening_refused m e = subst Opened e opening_is

  pub opening_clear : opening_number l v levels outer t n b ≡ 0 → Clear l v levels outer t at n b
  opening_clear e = subst Opened e opening_is

module _ {l : Limits} {v levels : ℕ} {outer : Bool} {t : List ℕ} {at n b : ℕ} (c : Clear l v levels outer t at n b) where
  past_kind : operands in_bytes (fields l c.k) (past c.k (cursor t at n b)) ≡ on_fields (judged_fields (fields_of l (get_or t 0 0)) t at 1) (values_at (fields l c.k) t 1) t at (suc n) (b + boxes_of c.k)
  past_kind = rw (fields_of_law (get_or t 0 0) l v c.k c.kind, ← add-one at) (operands_are t at (suc n) (b + boxes_of c.k) (fields l c.k) 1 c.bytes)

  one_deeper : suc (levels - 1) ≡ levels
  one_deeper = omega (arith, c.deep)

  pub term_stops : (m p : ℕ) → judged_fields (fields_of l (get_or t 0 0)) t at 1 ≡ err (m, p) → term l v in_bytes levels outer (cursor t at n b) ≡ err (m, p)
  unfolding on_fields
  term_stops m p e =
      subst (λ (d : ℕ). term l v in_bytes d outer (cursor t at n b) ≡ err (m, p)) one_deeper
      (term_operands_refused l v in_bytes outer (cursor t at n b) c.k c.opens (levels - 1) c.few (m, p) (rw e at past_kind))

  pub term_goes : (used : ℕ) → judged_fields (fields_of l (get_or t 0 0)) t at 1 ≡ ok used → term l v in_bytes levels outer (cursor t at n b) ≡ built c.k n (values_at (fields l c.k) t 1) (term l v in_bytes (levels - 1)) (cursor (drop used t) (at + used) (suc n) (b + boxes_of c.k))
  unfolding on_fields rest_of_row done
  term_goes used e =
      subst (λ (d : ℕ). term l v in_bytes d outer (cursor t at n b) ≡ built c.k n (values_at (fields l c.k) t 1) (term l v in_bytes (levels - 1)) (cursor (drop used t) (at + used) (suc n) (b + boxes_of c.k))) one_deeper
      (term_built l v in_bytes outer (cursor t at n b) c.k c.opens (levels - 1) c.few _ _ (rw e at past_kind) _ refl)
