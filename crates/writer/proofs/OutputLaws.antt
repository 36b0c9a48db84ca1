-- The bytes of rows one after the other: what a row of each kind gives, and what the loops that count and write the rows keep.
use Prim.Native.Nat.{ℕ, zero, suc, ◌+◌, ◌*◌, ◌/◌, ◌%◌, ◌≤◌, ◌<◌}
use native.Mathlib.Omega.{arith}
use native.Mathlib.Numerals.{add-one}
use mathlib.Core.Path.{◌≡◌, refl, sym, ap, ◌∙◌}
use mathlib.Core.Logic.{◌⊎◌, ⊎_elim}
use mathlib.Core.List.{List, [], ◌∷◌, ◌++◌, append-nil, append_assoc}
use lib.ListN.{length, get_or, drop, length-append}
use lib.Seq.{sets, get_or-drop}
use borrow.Author.Tests.{ne_eqb}
use Rattle.syntax.specs.KindNumbers.{number_in}
use Rattle.syntax.specs.Parts.{IsKind}
use Rattle.syntax.specs.declared.kinds.Kind as code
use Rattle.syntax.specs.declared.kinds.Kind.TheVariants as kind
use Rattle.writer.specs.OutputParts.{row_bytes, bytes_at, flat, script_from}
use Rattle.syntax.proofs.Lists.{sets_append}

-- The bytes of a row, by its kind.
module _ (j : code.Kind) (k a b c d : ℕ) (is : number_in j ≡ k) where
  at : (m : code.Kind) → j ≡ m → (xs : List ℕ) → row_bytes (number_in m) a b c d ≡ number_in m % 256 ∷ xs → row_bytes k a b c d ≡ k % 256 ∷ xs
  at m e xs q = rw (← is, e) q

  pub word_bytes : j ≡ kind.Number → row_bytes k a b c d ≡ k % 256 ∷ a / 16777216 % 256 ∷ a / 65536 % 256 ∷ a / 256 % 256 ∷ a % 256 ∷ []
  unfolding row_bytes
  word_bytes e = at kind.Number e _ refl

  pub one_bytes : (j ≡ kind.Reading) ⊎ ((j ≡ kind.Let) ⊎ (j ≡ kind.Block)) → row_bytes k a b c d ≡ k % 256 ∷ a % 256 ∷ []
  unfolding row_bytes
  one_bytes h = ⊎_elim (λ e. at kind.Reading e _ refl) (λ h. ⊎_elim (λ e. at kind.Let e _ refl) (λ e. at kind.Block e _ refl) h) h

  pub none_bytes : j ≡ kind.Box → row_bytes k a b c d ≡ k % 256 ∷ []
  unfolding row_bytes
  none_bytes e = at kind.Box e _ refl

  pub places_bytes : (j ≡ kind.Below) ⊎ (j ≡ kind.Sum) → row_bytes k a b c d ≡ k % 256 ∷ a % 256 ∷ b % 256 ∷ c % 256 ∷ d % 256 ∷ []
  unfolding row_bytes
  places_bytes h = ⊎_elim (λ e. at kind.Below e _ refl) (λ e. at kind.Sum e _ refl) h

  pub five_bytes : (j ≡ kind.Number) ⊎ ((j ≡ kind.Below) ⊎ (j ≡ kind.Sum)) → length (row_bytes k a b c d) ≡ 5
  five_bytes h = ⊎_elim (λ e. ap length (word_bytes e)) (λ e. ap length (places_bytes e)) h

  pub place_bytes : (j ≡ kind.Number → ⊥) → (j ≡ kind.Below → ⊥) → (j ≡ kind.Sum → ⊥) → (j ≡ kind.Reading → ⊥) → (j ≡ kind.Let → ⊥) → (j ≡ kind.Block → ⊥) → (j ≡ kind.Box → ⊥) → row_bytes k a b c d ≡ k % 256 ∷ a % 256 ∷ b % 256 ∷ []
  unfolding row_bytes
  place_bytes n1 n10 n13 n2 n8 n11 n7 = rw (← is) (go j n1 n10 n13 n2 n8 n11 n7)
    where
      go : (j : code.Kind) → (j ≡ kind.Number → ⊥) → (j ≡ kind.Below → ⊥) → (j ≡ kind.Sum → ⊥) → (j ≡ kind.Reading → ⊥) → (j ≡ kind.Let → ⊥) → (j ≡ kind.Block → ⊥) → (j ≡ kind.Box → ⊥) → row_bytes (number_in j) a b c d ≡ number_in j % 256 ∷ a % 256 ∷ b % 256 ∷ []
      go kind.Number n1 n10 n13 n2 n8 n11 n7 = absurd (n1 refl)
      go kind.Reading n1 n10 n13 n2 n8 n11 n7 = absurd (n2 refl)
      go kind.Copy n1 n10 n13 n2 n8 n11 n7 = refl
      go kind.Move n1 n10 n13 n2 n8 n11 n7 = refl
      go kind.Shared n1 n10 n13 n2 n8 n11 n7 = refl
      go kind.Exclusive n1 n10 n13 n2 n8 n11 n7 = refl
      go kind.Box n1 n10 n13 n2 n8 n11 n7 = absurd (n7 refl)
      go kind.Let n1 n10 n13 n2 n8 n11 n7 = absurd (n8 refl)
      go kind.Assign n1 n10 n13 n2 n8 n11 n7 = refl
      go kind.Below n1 n10 n13 n2 n8 n11 n7 = absurd (n10 refl)
      go kind.Block n1 n10 n13 n2 n8 n11 n7 = absurd (n11 refl)
      go kind.Choice n1 n10 n13 n2 n8 n11 n7 = refl
      go kind.Sum n1 n10 n13 n2 n8 n11 n7 = absurd (n13 refl)

-- A number that is no kind's is taken as one with a place.
pub other_bytes : (k a b c d : ℕ) → (IsKind k → ⊥) → row_bytes k a b c d ≡ k % 256 ∷ a % 256 ∷ b % 256 ∷ []
unfolding row_bytes
other_bytes k a b c d n = rw (ne_eqb k 1 (λ e. n (omega arith, omega arith)), ne_eqb k 2 (λ e. n (omega arith, omega arith)), ne_eqb k 7 (λ e. n (omega arith, omega arith)), ne_eqb k 8 (λ e. n (omega arith, omega arith)), ne_eqb k 10 (λ e. n (omega arith, omega arith)), ne_eqb k 11 (λ e. n (omega arith, omega arith)), ne_eqb k 13 (λ e. n (omega arith, omega arith)))

-- The bytes of one row more.
at_next : (rs : List ℕ) (i : ℕ) → bytes_at (drop 5 rs) i ≡ bytes_at rs (suc i)
unfolding bytes_at
at_next rs i =
    let kind : get_or (drop 5 rs) (i * 5) 0 ≡ get_or rs (suc i * 5) 0 = get_or-drop 5 rs (i * 5) 0 ∙ ap (λ (k : ℕ). get_or rs k 0) (omega arith) in
    let field : (j : ℕ) → get_or (drop 5 rs) (i * 5 + j) 0 ≡ get_or rs (suc i * 5 + j) 0 = λ j. get_or-drop 5 rs (i * 5 + j) 0 ∙ ap (λ (k : ℕ). get_or rs k 0) (omega arith) in
    rw (kind, field 1, field 2, field 3, field 4)

flat_more : (i : ℕ) (rs : List ℕ) → flat (suc i) rs ≡ flat i rs ++ bytes_at rs i
unfolding flat
flat_more zero rs = append-nil (bytes_at rs 0)
flat_more (suc i) rs =
    ap (λ (x : List ℕ). bytes_at rs 0 ++ x) (flat_more i (drop 5 rs) ∙ ap (λ (x : List ℕ). flat i (drop 5 rs) ++ x) (at_next rs i))
    ∙ sym (append_assoc (bytes_at rs 0) (flat i (drop 5 rs)) (bytes_at rs (suc i)))

flat_grows : (i n : ℕ) (rs : List ℕ) → i ≤ n → length (flat i rs) ≤ length (flat n rs)
unfolding flat
flat_grows zero n rs h = omega arith
flat_grows (suc i) zero rs h = absurd (omega arith)
flat_grows (suc i) (suc n) rs h =
    omega (arith, length-append (bytes_at rs 0) (flat i (drop 5 rs)), length-append (bytes_at rs 0) (flat n (drop 5 rs)), flat_grows i n (drop 5 rs) (omega arith))

-- A loop over the rows, at row i.
module _ (rs : List ℕ) (i : ℕ) where
  row_next : flat (i + 1) rs ≡ flat i rs ++ bytes_at rs i
  row_next = rw add-one (flat_more i rs)

  pub row_counted : length (flat (i + 1) rs) ≡ length (flat i rs) + length (bytes_at rs i)
  row_counted = ap length row_next ∙ length-append (flat i rs) (bytes_at rs i)

  -- The same, where the kind alone has said how many bytes the row gives.
  pub kind_counted : (r : ℕ) → ((a b c d : ℕ) → length (row_bytes (get_or rs (i * 5) 0) a b c d) ≡ r) → length (flat (i + 1) rs) ≡ length (flat i rs) + r
  unfolding bytes_at
  kind_counted r h = row_counted ∙ ap (λ (n : ℕ). length (flat i rs) + n) (h _ _ _ _)

  pub row_fits : (n : ℕ) → i < n → length (flat i rs) + length (bytes_at rs i) ≤ length (flat n rs)
  row_fits n h = omega (arith, row_counted, flat_grows (i + 1) n rs (omega arith))

  pub row_put : (o₀ o o' : List ℕ) (at : ℕ) → at ≡ 5 + length (flat i rs) → o ≡ sets o₀ 5 (flat i rs) → o' ≡ sets o at (bytes_at rs i) → o' ≡ sets o₀ 5 (flat (i + 1) rs)
  row_put o₀ o o' at e p q =
      q ∙ ap (λ (x : List ℕ). sets x at (bytes_at rs i)) p ∙ sets_append o₀ 5 (flat i rs) (bytes_at rs i) at e ∙ ap (sets o₀ 5) (sym row_next)

  -- After the last row.
  module _ (n : ℕ) (most : i ≤ n) (all : n ≤ i) where
    pub all_counted : (bytes v : ℕ) → bytes ≡ 5 + length (flat i rs) → bytes ≡ length (script_from v n rs)
    all_counted bytes v h =
        let e : i ≡ n = omega arith in
        omega (arith, ap (λ (k : ℕ). length (flat k rs)) e)

    pub all_put : (v : ℕ) (out o₀ o : List ℕ) → o₀ ≡ sets out 0 (0x52 ∷ 0x43 ∷ 0x53 ∷ v / 256 % 256 ∷ v % 256 ∷ []) → o ≡ sets o₀ 5 (flat i rs) → o ≡ sets out 0 (script_from v n rs)
    all_put v out o₀ o p q =
        let e : i ≡ n = omega arith in
        q ∙ ap (λ (k : ℕ). sets o₀ 5 (flat k rs)) e ∙ ap (λ (x : List ℕ). sets x 5 (flat n rs)) p
