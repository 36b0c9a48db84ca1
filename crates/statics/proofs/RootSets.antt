-- What the rules do with sets of places, done with their roots: united, with follows more, one place alone.
use Prim.Native.Nat.{ℕ, zero, suc, ◌+◌, ◌-◌, ◌≤◌, ◌<◌}
use native.Mathlib.Omega.{arith}
use mathlib.Core.Path.{◌≡◌, refl, sym, ap, ◌∙◌, subst}
use mathlib.Core.Logic.{inl, inr}
use mathlib.Core.Bool.{Bool, true, false}
use mathlib.Core.List.{List, [], ◌∷◌}
use lib.Dec.{eqb}
use borrow.Author.Tests.{eqb-true, eq-eqb}
use Rattle.syntax.specs.Script.{Place}
use Rattle.statics.specs.Places.{unite}
use Rattle.statics.specs.Follow.{past}
use Rattle.statics.specs.Neat.{place, Among, Ordered}
use Rattle.statics.specs.Roots.{place_at, kept, places_from, places_of}
use Rattle.statics.proofs.SetLaws.{unite_out, unite_left, unite_right}
use Rattle.statics.proofs.SetOrder.{is_before, unite_ordered}
use Rattle.statics.proofs.SetEquality.{same_list}
use Rattle.statics.proofs.RootLaws.{or, or_true, or_left, or_right, from_out, from_in}

pub from_ordered : (f : ℕ → Bool) (long : ℕ → ℕ) (m x n : ℕ) → Ordered (places_from f long m x n)
unfolding places_from
from_ordered f long m x zero = tt
from_ordered f long m x (suc n) = go (f x) (from_ordered f long m (suc x) n)
  where
    go : (b : Bool) → Ordered (places_from f long m (suc x) n) → Ordered (kept b (place_at long m x) (places_from f long m (suc x) n))
    go true ih = (λ q i. let k = from_out f long m (suc x) n q i in is_before (place_at long m x) q (inl (omega (arith, k.0))), ih)
    go false ih = ih

-- Sets united: roots of either.
pub unite_places : (nv : ℕ) (f g : ℕ → Bool) (long : ℕ → ℕ) (m : ℕ) → unite (places_of nv f long m) (places_of nv g long m) ≡ places_of nv (λ x. or (f x) (g x)) long m
unfolding places_of
unite_places nv f g long m =
    same_list (unite A B) C (unite_ordered A B (from_ordered g long m 0 nv)) (from_ordered (λ x. or (f x) (g x)) long m 0 nv)
    (λ q i. elim (unite_out q A B i) [
      | inl j ↦ (let k = from_out f long m 0 nv q j in back q k.1 (or_left (f q.root) (g q.root) k.2) k.3)
      | inr j ↦ (let k = from_out g long m 0 nv q j in back q k.1 (or_right (f q.root) (g q.root) k.2) k.3)
    ])
    (λ q i. let k = from_out (λ x. or (f x) (g x)) long m 0 nv q i in elim (or_true (f q.root) (g q.root) k.2) [
      | inl e ↦ unite_left q A B (subst (λ (y : Place). Among y A) (sym k.3) (from_in f long m 0 nv q.root (omega arith) k.1 e))
      | inr e ↦ unite_right q A B (subst (λ (y : Place). Among y B) (sym k.3) (from_in g long m 0 nv q.root (omega arith) k.1 e))
    ])
  where
    A : List Place
    A = places_from f long m 0 nv

    B : List Place
    B = places_from g long m 0 nv

    C : List Place
    C = places_from (λ x. or (f x) (g x)) long m 0 nv

    back : (q : Place) → q.root < 0 + nv → or (f q.root) (g q.root) ≡ true → q ≡ place_at long m q.root → Among q C
    back q l e p = subst (λ (y : Place). Among y C) (sym p) (from_in (λ x. or (f x) (g x)) long m 0 nv q.root (omega arith) l e)

-- With follows more: the same roots, fewer links left.
module _ (f : ℕ → Bool) (long : ℕ → ℕ) (m r : ℕ) (l : r ≤ m) (h : (x : ℕ) → f x ≡ true → m ≤ long x) where
  past_one : (x : ℕ) (b : Bool) → (b ≡ true → m ≤ long x) → (ps : List Place) → past (kept b (place_at long m x) ps) r ≡ kept b (place_at long (m - r) x) (past ps r)
  unfolding past
  past_one x true k ps = let e : (long x - m) + r ≡ long x - (m - r) = (let z = k refl in omega arith) in ap (λ (s : ℕ). place x s ∷ past ps r) e
  past_one x false k ps = refl

  past_from : (x n : ℕ) → past (places_from f long m x n) r ≡ places_from f long (m - r) x n
  unfolding places_from past
  past_from x zero = refl
  past_from x (suc n) = past_one x (f x) (h x) (places_from f long m (suc x) n) ∙ ap (λ (ps : List Place). kept (f x) (place_at long (m - r) x) ps) (past_from (suc x) n)

  pub past_places : (nv : ℕ) → past (places_of nv f long m) r ≡ places_of nv f long (m - r)
  unfolding places_of
  past_places nv = past_from 0 nv

-- One place alone: its root.
pub one_place : (nv : ℕ) (p : Place) (long : ℕ → ℕ) (m : ℕ) → p.root < nv → p ≡ place_at long m p.root → p ∷ [] ≡ places_of nv (eqb p.root) long m
unfolding places_of
one_place nv p long m l e = same_list (p ∷ []) (places_from (eqb p.root) long m 0 nv) (λ q i. absurd i, tt) (from_ordered (eqb p.root) long m 0 nv)
    (λ q i. elim i [
      | inl j ↦ subst (λ (y : Place). Among y (places_from (eqb p.root) long m 0 nv)) (sym (j ∙ e)) (from_in (eqb p.root) long m 0 nv p.root (omega arith) (omega arith) (eq-eqb p.root p.root refl))
      | inr j ↦ absurd j
    ])
    (λ q i. let k = from_out (eqb p.root) long m 0 nv q i in inl (k.3 ∙ ap (place_at long m) (sym (eqb-true p.root q.root k.2)) ∙ sym e))
