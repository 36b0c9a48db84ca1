-- Sets of places stay in order: united, led on, and as a borrow end.
use Prim.Native.Nat.{ℕ, ◌+◌, ◌<◌}
use native.Mathlib.Omega.{arith}
use mathlib.Core.Path.{◌≡◌, refl, sym, ap, ◌∙◌, subst}
use mathlib.Core.Logic.{◌⊎◌, inl, inr}
use mathlib.Core.Bool.{Bool, true, false, false≢true}
use mathlib.Core.List.{List, [], ◌∷◌}
use lib.Dec.{eqb, ltb}
use borrow.Author.Tests.{eqb-true, eqb-false, eq-eqb, ltb-true, ltb-false, lt-ltb}
use Rattle.syntax.specs.Result.{pick}
use Rattle.syntax.specs.Script.{Place}
use Rattle.statics.specs.Links.{Link, boxed, shared, exclusive}
use Rattle.statics.specs.Places.{same_place, before, insert, unite}
use Rattle.statics.specs.Environment.{places, borrow_end, Environment, borrow_of, borrows_at}
use Rattle.statics.specs.Follow.{past}
use Rattle.statics.specs.Neat.{place, Ordered}
use Rattle.statics.proofs.SetLaws.{insert_out, past_out}

-- By the root, then by the follows.
abbrev Below : Place → Place → Type 0
Below p q = (p.root < q.root) ⊎ ((p.root ≡ q.root) × (p.follows < q.follows))

pub before_is : (p q : Place) → before p q ≡ true → (p.root < q.root) ⊎ ((p.root ≡ q.root) × (p.follows < q.follows))
unfolding before
before_is p q h = go (eqb p.root q.root) refl h
  where
    go : (b : Bool) → eqb p.root q.root ≡ b → pick b (ltb p.follows q.follows) (ltb p.root q.root) ≡ true → Below p q
    go true e k = inr (eqb-true _ _ e, ltb-true _ _ k)
    go false e k = inl (ltb-true _ _ k)

pub is_before : (p q : Place) → Below p q → before p q ≡ true
unfolding before
is_before p q h = go (eqb p.root q.root) refl h
  where
    go : (b : Bool) → eqb p.root q.root ≡ b → Below p q → pick b (ltb p.follows q.follows) (ltb p.root q.root) ≡ true
    go true e (inl k) = absurd (let z = eqb-true p.root q.root e in omega arith)
    go true e (inr k) = lt-ltb _ _ k.1
    go false e (inl k) = lt-ltb _ _ k
    go false e (inr k) = absurd (false≢true (sym e ∙ eq-eqb _ _ k.0))

before_then : (p q r : Place) → before p q ≡ true → before q r ≡ true → before p r ≡ true
before_then p q r h k = is_before p r (go (before_is p q h) (before_is q r k))
  where
    go : Below p q → Below q r → Below p r
    go (inl a) (inl b) = inl (omega arith)
    go (inl a) (inr b) = inl (omega (arith, b.0))
    go (inr a) (inl b) = inl (omega (arith, a.0))
    go (inr a) (inr b) = inr (a.0 ∙ b.0, omega (arith, a.1, b.1))

-- Of two places, one comes first, or they are the same.
before_other : (p q : Place) → same_place p q ≡ false → before p q ≡ false → before q p ≡ true
unfolding same_place before
before_other p q h k = go (eqb p.root q.root) refl h k
  where
    go : (b : Bool) → eqb p.root q.root ≡ b → pick b (eqb p.follows q.follows) false ≡ false
        → pick b (ltb p.follows q.follows) (ltb p.root q.root) ≡ false → before q p ≡ true
    go true e h k = let a = eqb-true p.root q.root e in let b = eqb-false p.follows q.follows h in let c = ltb-false p.follows q.follows k in is_before q p (inr (sym a, omega arith))
    go false e h k = let a = eqb-false p.root q.root e in let c = ltb-false p.root q.root k in is_before q p (inl (omega arith))

insert_ordered : (p : Place) (qs : List Place) → Ordered qs → Ordered (insert p qs)
unfolding insert
insert_ordered p [] o = (λ q i. absurd i, tt)
insert_ordered p (q ∷ qs) o = go (same_place p q) refl (before p q) refl (insert_ordered p qs o.1)
  where
    go : (b : Bool) → same_place p q ≡ b → (c : Bool) → before p q ≡ c → Ordered (insert p qs) → Ordered (pick b (q ∷ qs) (pick c (p ∷ q ∷ qs) (q ∷ insert p qs)))
    go true e c f ih = o
    go false e true f ih = (λ k i. elim i [ inl j ↦ ap (before p) j ∙ f | inr j ↦ before_then p q k f (o.0 k j) ], o)
    go false e false f ih = (λ k i. elim (insert_out p k qs i) [ inl j ↦ ap (before q) j ∙ before_other p q e f | inr j ↦ o.0 k j ], ih)

pub unite_ordered : (ps qs : List Place) → Ordered qs → Ordered (unite ps qs)
unfolding unite
unite_ordered [] qs o = o
unite_ordered (p ∷ ps) qs o = insert_ordered p (unite ps qs) (unite_ordered ps qs o)

pub past_ordered : (ps : List Place) (s : ℕ) → Ordered ps → Ordered (past ps s)
unfolding past
past_ordered [] s o = tt
past_ordered (p ∷ ps) s o = (λ n i. let k = past_out n ps s i in subst (λ (y : Place). before (place p.root (p.follows + s)) y ≡ true) (sym k.2) (shift k.0 (before_is p k.0 (o.0 k.0 k.1))), past_ordered ps s o.1)
  where
    shift : (q : Place) → Below p q → before (place p.root (p.follows + s)) (place q.root (q.follows + s)) ≡ true
    shift q (inl a) = is_before (place p.root (p.follows + s)) (place q.root (q.follows + s)) (inl a)
    shift q (inr a) = is_before (place p.root (p.follows + s)) (place q.root (q.follows + s)) (inr (a.0, omega (arith, a.1)))

pub borrows_ordered : (Γ : Environment) (qs : List Place) → Ordered (borrows_at Γ qs)
unfolding borrows_at
borrows_ordered Γ [] = tt
borrows_ordered Γ (q ∷ qs) = unite_ordered (places (borrow_of (Γ q.root))) (borrows_at Γ qs) (borrows_ordered Γ qs)

pub end_ordered : (ks : List Link) (ps : List Place) → Ordered ps → Ordered (places (borrow_end ks ps))
unfolding borrow_end
end_ordered [] ps o = tt
end_ordered (boxed ∷ ks) ps o = end_ordered ks ps o
end_ordered (shared ∷ ks) ps o = o
end_ordered (exclusive ∷ ks) ps o = o

-- A borrow end made from places is that with its places.
pub end_again : (ks : List Link) (ps : List Place) → borrow_end ks ps ≡ borrow_end ks (places (borrow_end ks ps))
unfolding borrow_end
end_again [] ps = refl
end_again (boxed ∷ ks) ps = end_again ks ps
end_again (shared ∷ ks) ps = refl
end_again (exclusive ∷ ks) ps = refl
