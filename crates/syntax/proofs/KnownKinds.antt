-- Which bytes are kinds, and the operands after each: from a byte's range to its kind, where `KindBytes` goes from a kind to its byte.
use Prim.Native.Nat.{ℕ, ◌≤◌, ◌<◌}
use native.Mathlib.Omega.{arith}
use mathlib.Core.Path.{◌≡◌, refl, sym, ap, ◌∙◌}
use mathlib.Core.Bool.{Bool, true, false, false≢true, ◌&&◌}
use mathlib.Core.Logic.{◌⊎◌, ⊎_elim}
use mathlib.Core.Option.{Option, none, some}
use mathlib.Core.List.{[]}
use lib.Dec.{leb, ltb}
use borrow.Author.Tests.{le-leb, leb-true, leb-false, ltb-true}
use Rattle.syntax.specs.Result.{pick}
use Rattle.syntax.specs.Limits.{Limits}
use Rattle.syntax.specs.Kinds.{Kind, k_number, k_reading, k_copy, k_move, k_shared, k_exclusive, k_box, k_let, k_assign, k_below, k_block, k_choice, k_sum, byte_of, newest, kinds, among, kind_of, added_in, fields}
use Rattle.syntax.specs.Parts.{known_in, IsKind, fields_in, fields_of}
use Rattle.syntax.specs.Parts.{place_fields}
use Rattle.syntax.specs.ByteParts.{word_field, one_field, two_place_fields}
use Rattle.syntax.proofs.KindBytes.{has, has_added, added_most, found, found_has}
use Rattle.syntax.proofs.HeadSound.{both}

-- A kind that a version has, by the range of its byte.
known_byte : (v : ℕ) (k : Kind) → added_in k ≤ v → known_in v (byte_of k) ≡ true
unfolding known_in byte_of added_in
known_byte v k_number h = refl
known_byte v k_reading h = refl
known_byte v k_copy h = refl
known_byte v k_move h = refl
known_byte v k_shared h = refl
known_byte v k_exclusive h = refl
known_byte v k_box h = refl
known_byte v k_let h = refl
known_byte v k_assign h = refl
known_byte v k_below h = refl
known_byte v k_block h = refl
known_byte v k_choice h = le-leb 2 v h
known_byte v k_sum h = le-leb 2 v h

module _ (b : ℕ) where
  -- A byte without a kind is no kind's byte.
  no_byte : kind_of newest b ≡ none → (k : Kind) → byte_of k ≡ b → ⊥
  no_byte h k e = let q : some k ≡ none = sym (has newest k (added_most k)) ∙ ap (kind_of newest) e ∙ h in let z : ◌≡◌ {A = ℕ} 0 1 = cc in omega arith

  pub kind_some : IsKind b → (k : Kind) × (kind_of newest b ≡ some k)
  unfolding byte_of
  kind_some h = go (kind_of newest b) refl
    where
      go : (o : Option Kind) → kind_of newest b ≡ o → (k : Kind) × (o ≡ some k)
      go (some k) e = (k, refl)
      go none e =
          let m = no_byte e in
          let low : 5 < b = omega (arith, m k_number, m k_reading, m k_copy, m k_move, m k_shared) in
          let high : 11 < b = omega (arith, m k_exclusive, m k_box, m k_let, m k_assign, m k_below, m k_block) in
          absurd (omega (arith, m k_choice, m k_sum, h.1))

  -- What a byte in its range says.
  pub known_is : (v : ℕ) → known_in v b ≡ true → IsKind b × (11 < b → 2 ≤ v)
  unfolding known_in
  known_is v h = go (leb b 11) refl h
    where
      go : (t : Bool) → leb b 11 ≡ t → pick t (ltb 0 b) (leb b 13 && leb 2 v) ≡ true → IsKind b × (11 < b → 2 ≤ v)
      go true e q = let n = leb-true b 11 e in ((ltb-true 0 b q, omega arith), λ z. omega arith)
      go false e q =
          let a = both (leb b 13) (leb 2 v) q in
          let n = leb-false b 11 e in
          ((omega arith, leb-true b 13 a.0), λ z. leb-true 2 v a.1)

  pub known_some : (v : ℕ) → known_in v b ≡ true → (k : Kind) × (kind_of v b ≡ some k)
  unfolding byte_of added_in
  known_some v h =
      let i = known_is v h in
      let o = kind_some i.0 in
      let e = found newest b o.0 o.1 in
      (o.0, sym (ap (kind_of v) e) ∙ has v o.0 (added o.0 (λ z. i.1 (omega arith))))
    where
      added : (k : Kind) → (11 < byte_of k → 2 ≤ v) → added_in k ≤ v
      added k_number f = omega arith
      added k_reading f = omega arith
      added k_copy f = omega arith
      added k_move f = omega arith
      added k_shared f = omega arith
      added k_exclusive f = omega arith
      added k_box f = omega arith
      added k_let f = omega arith
      added k_assign f = omega arith
      added k_below f = omega arith
      added k_block f = omega arith
      added k_choice f = f (omega arith)
      added k_sum f = f (omega arith)

  pub known_none : (v : ℕ) → known_in v b ≡ false → kind_of v b ≡ none
  known_none v h = go (kind_of v b) refl
    where
      go : (o : Option Kind) → kind_of v b ≡ o → o ≡ none
      go none e = refl
      go (some k) e =
          let q : known_in v b ≡ true = ap (known_in v) (sym (found v b k e)) ∙ known_byte v k (has_added v k (found_has v b k e)) in
          absurd (false≢true (sym h ∙ q))

  -- What one version has, the newest has.
  pub kind_newest : (v : ℕ) (k : Kind) → kind_of v b ≡ some k → kind_of newest b ≡ some k
  kind_newest v k h = sym (ap (kind_of newest) (found v b k h)) ∙ has newest k (added_most k)

  pub fields_of_law : (l : Limits) (v : ℕ) (k : Kind) → kind_of v b ≡ some k → fields_of l b ≡ fields l k
  unfolding fields_of fields_in
  fields_of_law l v k h = rw (kind_newest v k h)

-- The kinds with operands of their own, by their bytes.
pub fields_number : (l : Limits) → fields_of l 1 ≡ word_field
unfolding fields_of fields_in newest kind_of kinds among byte_of fields
fields_number l = refl

pub fields_reading : (l : Limits) → fields_of l 2 ≡ one_field 0 8
unfolding fields_of fields_in newest kind_of kinds among byte_of fields
fields_reading l = refl

pub fields_box : (l : Limits) → fields_of l 7 ≡ []
unfolding fields_of fields_in newest kind_of kinds among byte_of fields
fields_box l = refl

pub fields_let : (l : Limits) → fields_of l 8 ≡ one_field 0 l.variables
unfolding fields_of fields_in newest kind_of kinds among byte_of fields
fields_let l = refl

pub fields_two : (l : Limits) (b : ℕ) → (b ≡ 10) ⊎ (b ≡ 13) → fields_of l b ≡ two_place_fields l.variables
unfolding fields_of fields_in newest kind_of kinds among byte_of fields
fields_two l b h = ⊎_elim (λ e. rw e) (λ e. rw e) h

pub fields_block : (l : Limits) → fields_of l 11 ≡ one_field 1 256
unfolding fields_of fields_in newest kind_of kinds among byte_of fields
fields_block l = refl

-- The kinds other than these seven have one place as their operands.
module _ (b : ℕ) (not-1 : b ≡ 1 → ⊥) (not-2 : b ≡ 2 → ⊥) (not-7 : b ≡ 7 → ⊥) (not-8 : b ≡ 8 → ⊥) (not-10 : b ≡ 10 → ⊥) (not-11 : b ≡ 11 → ⊥) (not-13 : b ≡ 13 → ⊥) where
  place_kind : (l : Limits) (k : Kind) → byte_of k ≡ b → fields l k ≡ place_fields l.variables
  unfolding byte_of fields
  place_kind l k_number e = absurd (not-1 (sym e))
  place_kind l k_reading e = absurd (not-2 (sym e))
  place_kind l k_copy e = refl
  place_kind l k_move e = refl
  place_kind l k_shared e = refl
  place_kind l k_exclusive e = refl
  place_kind l k_box e = absurd (not-7 (sym e))
  place_kind l k_let e = absurd (not-8 (sym e))
  place_kind l k_assign e = refl
  place_kind l k_below e = absurd (not-10 (sym e))
  place_kind l k_block e = absurd (not-11 (sym e))
  place_kind l k_choice e = refl
  place_kind l k_sum e = absurd (not-13 (sym e))

  pub fields_place : (l : Limits) → IsKind b → fields_of l b ≡ place_fields l.variables
  fields_place l h =
      let o = kind_some b h in
      fields_of_law b l newest o.0 o.1 ∙ place_kind l o.0 (found newest b o.0 o.1)
