-- Kinds and their bytes: a kind is found by its byte and by no other, and no kind's byte is 0 or needs more than 8 bits.
use Prim.Native.Nat.{ℕ, ◌≤◌, ◌<◌}
use native.Mathlib.Omega.{arith}
use mathlib.Core.Path.{◌≡◌, refl, sym, ap, ◌∙◌, subst}
use mathlib.Core.Logic.{◌⊎◌, inl, inr}
use mathlib.Core.Bool.{Bool, true, false}
use mathlib.Core.Option.{some}
use mathlib.Core.List.{List, [], ◌∷◌}
use lib.Dec.{leb, eqb}
use borrow.Author.Tests.{leb-false, lt-leb, eqb-true, ne_eqb}
use Rattle.syntax.specs.Result.{pick}
use Rattle.syntax.specs.Kinds.{Kind, k_number, k_reading, k_copy, k_move, k_shared, k_exclusive, k_box, k_let, k_assign, k_below, k_block, k_choice, k_sum, byte_of, newest, kinds, among, kind_of, added_in, wraps_of}
use Rattle.syntax.specs.Layout.{Form, in_bytes, in_rows}
use Rattle.syntax.specs.Reader.{is, ended}

-- The version has the kind. Each law that needs this says so, since a later version may have kinds that an earlier one lacks.
abbrev pub Has : ℕ → Kind → Type 0
Has v k = kind_of v (byte_of k) ≡ some k

pub has : (v : ℕ) (k : Kind) → added_in k ≤ v → Has v k
unfolding kind_of kinds among byte_of added_in
has v k_number h = refl
has v k_reading h = refl
has v k_copy h = refl
has v k_move h = refl
has v k_shared h = refl
has v k_exclusive h = refl
has v k_box h = refl
has v k_let h = refl
has v k_assign h = refl
has v k_below h = refl
has v k_block h = refl
has v k_choice h = rw (lt-leb v 1 h)
has v k_sum h = rw (lt-leb v 1 h)

later : (v : ℕ) (k : Kind) → among (pick (leb v 1) [] (k_choice ∷ k_sum ∷ [])) (byte_of k) ≡ some k → 2 ≤ v
unfolding among
later v k h = go (leb v 1) refl h
  where
    go : (t : Bool) → leb v 1 ≡ t → among (pick t [] (k_choice ∷ k_sum ∷ [])) (byte_of k) ≡ some k → 2 ≤ v
    go true e q = let z : ◌≡◌ {A = ℕ} 0 1 = cc in absurd (omega arith)
    go false e q = leb-false v 1 e

-- A version has only the kinds that were added up to it.
pub has_added : (v : ℕ) (k : Kind) → Has v k → added_in k ≤ v
unfolding kind_of kinds among byte_of added_in
has_added v k_choice h = later v k_choice h
has_added v k_sum h = later v k_sum h
has_added v k_number h = omega arith
has_added v k_reading h = omega arith
has_added v k_copy h = omega arith
has_added v k_move h = omega arith
has_added v k_shared h = omega arith
has_added v k_exclusive h = omega arith
has_added v k_box h = omega arith
has_added v k_let h = omega arith
has_added v k_assign h = omega arith
has_added v k_below h = omega arith
has_added v k_block h = omega arith

-- The newest version has every kind.
pub added_most : (k : Kind) → added_in k ≤ newest
unfolding added_in newest
added_most k_number = omega arith
added_most k_reading = omega arith
added_most k_copy = omega arith
added_most k_move = omega arith
added_most k_shared = omega arith
added_most k_exclusive = omega arith
added_most k_box = omega arith
added_most k_let = omega arith
added_most k_assign = omega arith
added_most k_below = omega arith
added_most k_block = omega arith
added_most k_choice = omega arith
added_most k_sum = omega arith

among_says : (ks : List Kind) (b : ℕ) (k : Kind) → among ks b ≡ some k → byte_of k ≡ b
unfolding among
among_says [] b k h = let z : ◌≡◌ {A = ℕ} 0 1 = cc in absurd (omega arith)
among_says (j ∷ ks) b k h = go (λ e. among_says ks b k e) (eqb (byte_of j) b) refl h
  where
    go : (among ks b ≡ some k → byte_of k ≡ b) → (t : Bool) → eqb (byte_of j) b ≡ t → elim t [ true ↦ some j | false ↦ among ks b ] ≡ some k → byte_of k ≡ b
    go ih true e q = let z : j ≡ k = cc in subst (λ (x : Kind). byte_of x ≡ b) z (eqb-true (byte_of j) b e)
    go ih false e q = ih q

-- The byte of the kind that is found is the byte that was looked for.
pub found : (v b : ℕ) (k : Kind) → kind_of v b ≡ some k → byte_of k ≡ b
unfolding kind_of
found v b k h = among_says (kinds v) b k h

pub found_has : (v b : ℕ) (k : Kind) → kind_of v b ≡ some k → Has v k
found_has v b k h = ap (kind_of v) (found v b k h) ∙ h

pub byte_range : (k : Kind) → (1 ≤ byte_of k) × (byte_of k < 256)
unfolding byte_of
byte_range k_number = omega arith
byte_range k_reading = omega arith
byte_range k_copy = omega arith
byte_range k_move = omega arith
byte_range k_shared = omega arith
byte_range k_exclusive = omega arith
byte_range k_box = omega arith
byte_range k_let = omega arith
byte_range k_assign = omega arith
byte_range k_below = omega arith
byte_range k_block = omega arith
byte_range k_choice = omega arith
byte_range k_sum = omega arith

-- The kinds that stand around one inner term, and the others.
pub wrapping : (b : ℕ) → wraps_of b ≡ true → (b ≡ 7) ⊎ (b ≡ 8) ⊎ (b ≡ 9)
unfolding wraps_of byte_of
wrapping b e = go (eqb b 7) refl (eqb b 8) refl e
  where
    go : (x : Bool) → eqb b 7 ≡ x → (y : Bool) → eqb b 8 ≡ y → pick x true (pick y true (eqb b 9)) ≡ true → (b ≡ 7) ⊎ (b ≡ 8) ⊎ (b ≡ 9)
    go true p y q h = inl (eqb-true b 7 p)
    go false p true q h = inr (inl (eqb-true b 8 q))
    go false p false q h = inr (inr (eqb-true b 9 h))

pub not_wrapping : {b c : ℕ} → b ≡ c → wraps_of c ≡ false → (b ≡ 7 → ⊥) × (b ≡ 8 → ⊥) × (b ≡ 9 → ⊥)
unfolding wraps_of byte_of
not_wrapping {b} {c} q e = (λ h. clash 7 h refl, λ h. clash 8 h refl, λ h. clash 9 h refl)
  where
    clash : (m : ℕ) → b ≡ m → wraps_of m ≡ true → ⊥
    clash m h t = let z : wraps_of m ≡ false = rw (← h, q) e in let y : ◌≡◌ {A = ℕ} 0 1 = cc in absurd (omega arith)

-- So a row that holds a kind is no row past the end.
pub not_ended : (w : Form) (v b : ℕ) (k : Kind) → kind_of v b ≡ some k → ended w b ≡ false
unfolding ended
not_ended in_bytes v b k h = refl
not_ended in_rows v b k h = ne_eqb b 0 (λ e. omega (arith, byte_range k, found v b k h))

pub is_same : (k j : Kind) → is k j ≡ true → k ≡ j
unfolding is
is_same k j h =
    let e : byte_of k ≡ byte_of j = eqb-true _ _ h in
    let z : some k ≡ some j = sym (has newest k (added_most k)) ∙ ap (kind_of newest) e ∙ has newest j (added_most j) in cc
