-- The fields of a row after its kind, as the reader reads them and as the code tests them: each fault is 14 at the row.
use Prim.Native.Nat.{ℕ, zero, suc, ◌+◌, ◌*◌, ◌/◌, ◌≤◌}
use native.Mathlib.Omega.{arith}
use mathlib.Core.Path.{◌≡◌, refl, sym, ap, ◌∙◌}
use mathlib.Core.Bool.{Bool, true, false, ◌&&◌}
use mathlib.Core.List.{List, [], ◌∷◌, ◌++◌}
use lib.ListN.{length, take, drop}
use lib.Dec.{leb, ltb, eqb, leb-zero}
use borrow.Author.Tests.{le-ltb, ne_eqb}
use Rattle.syntax.specs.Result.{ok, err, pick}
use Rattle.syntax.specs.Limits.{Limits}
use Rattle.syntax.specs.Kinds.{Kind, byte_of, newest, kind_of, Field, word, until, fields}
use Rattle.syntax.specs.Layout.{in_rows}
use Rattle.syntax.specs.Reader.{Cursor, ◌>>=◌, done, place_in, expect, peek, skip, next, ranged, field, operands, zero_fields}
use Rattle.syntax.specs.Parts.{cursor, place_fields, fields_of}
use Rattle.syntax.specs.RowParts.{field_fits, fields_fit}
use Rattle.syntax.proofs.Answers.{go_on, stops}
use Rattle.syntax.proofs.KindBytes.{has, added_most}
use Rattle.syntax.proofs.KnownKinds.{fields_of_law}
use Rattle.syntax.proofs.TermSteps.{peek_ok, expect_ok, expect_err}

pub and_true : (b : Bool) → (b && true) ≡ b
and_true true = refl
and_true false = refl

and_assoc : (a b c : Bool) → ((a && b) && c) ≡ (a && (b && c))
and_assoc true b c = refl
and_assoc false b c = refl

-- An unused field is one from 0 to below 1.
zero_range : (v : ℕ) → (leb 0 v && ltb v 1) ≡ eqb v 0
zero_range zero = refl
zero_range (suc v) = rw (leb-zero (suc v), le-ltb (suc v) 1 (omega arith), ne_eqb (suc v) 0 (λ e. omega arith))

-- The operands alone: what comes after them is not looked at.
unfoldable pub operands_fit : List Field → List ℕ → Bool
operands_fit [] vs = true
operands_fit (f ∷ fs) [] = false
operands_fit (f ∷ fs) (v ∷ vs) = field_fits f v && operands_fit fs vs

pub fit_parts : (fs : List Field) (vs : List ℕ) → length fs ≤ length vs → fields_fit fs vs ≡ (operands_fit fs vs && fields_fit [] (drop (length fs) vs))
unfolding operands_fit fields_fit
fit_parts [] vs h = refl
fit_parts (f ∷ fs) [] h = absurd (omega arith)
fit_parts (f ∷ fs) (v ∷ vs) h = ap (λ (x : Bool). field_fits f v && x) (fit_parts fs vs (omega arith)) ∙ sym (and_assoc (field_fits f v) (operands_fit fs vs) _)

-- One number is taken, or refused with 14.
ranged_read : (lo hi x at n b : ℕ) (r : List ℕ) (t : Bool) → (leb lo x && ltb x hi) ≡ t → ranged in_rows lo hi (cursor (x ∷ r) at n b) ≡ pick t (ok (x, cursor r (suc at) n b)) (err (14, at / 5))
unfolding ranged skip done place_in
ranged_read lo hi x at n b r true h =
    let s = cursor (x ∷ r) at n b in
    let test : Cursor → Bool = λ s. leb lo x && ltb x hi in
    go_on (peek in_rows) _ s s x _ (peek_ok in_rows s x r refl)
    (go_on (expect in_rows test 14) _ s s tt _ (expect_ok in_rows test 14 s h)
    (go_on skip _ s (cursor r (suc at) n b) tt _ refl refl))
ranged_read lo hi x at n b r false h =
    let s = cursor (x ∷ r) at n b in
    let test : Cursor → Bool = λ s. leb lo x && ltb x hi in
    go_on (peek in_rows) _ s s x _ (peek_ok in_rows s x r refl)
    (stops (expect in_rows test 14) _ s _ (expect_err in_rows test 14 s h))

field_read : (f : Field) (x at n b : ℕ) (r : List ℕ) → field in_rows f (cursor (x ∷ r) at n b) ≡ pick (field_fits f x) (ok (x, cursor r (suc at) n b)) (err (14, at / 5))
unfolding field next skip done field_fits
field_read word x at n b r =
    let s = cursor (x ∷ r) at n b in
    go_on (peek in_rows) _ s s x _ (peek_ok in_rows s x r refl) (go_on skip _ s (cursor r (suc at) n b) tt _ refl refl)
field_read (until lo hi) x at n b r = ranged_read lo hi x at n b r (leb lo x && ltb x hi) refl

-- From `at`, which is in row i, on.
module _ (i n b : ℕ) (r : List ℕ) where
  pub operands_read : (fs : List Field) (xs : List ℕ) (at : ℕ) → length fs ≤ length xs → 5 * i ≤ at → at + length xs ≤ 5 * i + 5
      → operands in_rows fs (cursor (xs ++ r) at n b) ≡ pick (operands_fit fs xs) (ok (take (length fs) xs, cursor (drop (length fs) xs ++ r) (at + length fs) n b)) (err (14, i))
  unfolding operands operands_fit done
  operands_read [] xs at few low high = ap (λ (k : ℕ). ok ([], cursor (xs ++ r) k n b)) (omega arith)
  operands_read (f ∷ fs) [] at few low high = absurd (omega arith)
  operands_read (f ∷ fs) (x ∷ xs) at few low high = go (field_fits f x) (operands_fit fs xs) (field_read f x at n b (xs ++ r)) (operands_read fs xs (suc at) (omega arith) (omega arith) (omega arith))
    where
      s₁ : Cursor
      s₁ = cursor (xs ++ r) (suc at) n b

      go : (t u : Bool) → field in_rows f (cursor (x ∷ xs ++ r) at n b) ≡ pick t (ok (x, s₁)) (err (14, at / 5))
          → operands in_rows fs s₁ ≡ pick u (ok (take (length fs) xs, cursor (drop (length fs) xs ++ r) (suc at + length fs) n b)) (err (14, i))
          → (field in_rows f >>= λ v. operands in_rows fs >>= λ vs. done (v ∷ vs)) (cursor (x ∷ xs ++ r) at n b)
          ≡ pick (t && u) (ok (x ∷ take (length fs) xs, cursor (drop (length fs) xs ++ r) (at + suc (length fs)) n b)) (err (14, i))
      go true true p q =
          go_on (field in_rows f) _ _ s₁ x _ p
          (go_on (operands in_rows fs) _ s₁ _ _ _ q (ap (λ (k : ℕ). ok (x ∷ take (length fs) xs, cursor (drop (length fs) xs ++ r) k n b)) (omega arith)))
      go true false p q = go_on (field in_rows f) _ _ s₁ x _ p (stops (operands in_rows fs) _ s₁ _ q)
      go false u p q = stops (field in_rows f) _ _ _ p ∙ ap (λ (k : ℕ). err (14, k)) (omega arith)

  pub zeros_read : (xs : List ℕ) (at : ℕ) → 5 * i ≤ at → at + length xs ≤ 5 * i + 5
      → zero_fields (length xs) (cursor (xs ++ r) at n b) ≡ pick (fields_fit [] xs) (ok (tt, cursor r (at + length xs) n b)) (err (14, i))
  unfolding zero_fields fields_fit done
  zeros_read [] at low high = ap (λ (k : ℕ). ok (tt, cursor r k n b)) (omega arith)
  zeros_read (x ∷ xs) at low high = go (eqb x 0) (fields_fit [] xs) (ranged_read 0 1 x at n b (xs ++ r) (eqb x 0) (zero_range x)) (zeros_read xs (suc at) (omega arith) (omega arith))
    where
      s₁ : Cursor
      s₁ = cursor (xs ++ r) (suc at) n b

      go : (t u : Bool) → ranged in_rows 0 1 (cursor (x ∷ xs ++ r) at n b) ≡ pick t (ok (x, s₁)) (err (14, at / 5))
          → zero_fields (length xs) s₁ ≡ pick u (ok (tt, cursor r (suc at + length xs) n b)) (err (14, i))
          → (ranged in_rows 0 1 >>= λ v. zero_fields (length xs)) (cursor (x ∷ xs ++ r) at n b) ≡ pick (t && u) (ok (tt, cursor r (at + suc (length xs)) n b)) (err (14, i))
      go true true p q = go_on (ranged in_rows 0 1) _ _ s₁ x _ p (q ∙ ap (λ (k : ℕ). ok (tt, cursor r k n b)) (omega arith))
      go true false p q = go_on (ranged in_rows 0 1) _ _ s₁ x _ p q
      go false u p q = stops (ranged in_rows 0 1) _ _ _ p ∙ ap (λ (k : ℕ). err (14, k)) (omega arith)

-- A place, and the fields after it.
module _ (nv a b : ℕ) (fs : List Field) (vs : List ℕ) where
  place_parts : fields_fit (place_fields nv ++ fs) (a ∷ b ∷ vs) ≡ (fields_fit (place_fields nv) (a ∷ b ∷ []) && fields_fit fs vs)
  unfolding fields_fit
  place_parts =
      sym (ap (λ (t : Bool). (field_fits (until 0 nv) a && t) && fields_fit fs vs) (and_true (field_fits (until 0 9) b)) ∙ and_assoc (field_fits (until 0 nv) a) (field_fits (until 0 9) b) (fields_fit fs vs))

  pub place_then : fields_fit (place_fields nv) (a ∷ b ∷ []) ≡ true → fields_fit (place_fields nv ++ fs) (a ∷ b ∷ vs) ≡ fields_fit fs vs
  place_then h = place_parts ∙ ap (λ (t : Bool). t && fields_fit fs vs) h

  pub place_else : fields_fit (place_fields nv) (a ∷ b ∷ []) ≡ false → fields_fit (place_fields nv ++ fs) (a ∷ b ∷ vs) ≡ false
  place_else h = place_parts ∙ ap (λ (t : Bool). t && fields_fit fs vs) h

-- The operands of a byte that is known to be a kind's.
pub fields_by : (l : Limits) (k : Kind) (b : ℕ) → b ≡ byte_of k → fields_of l b ≡ fields l k
fields_by l k b e = fields_of_law b l newest k (ap (kind_of newest) e ∙ has newest k (added_most k))
