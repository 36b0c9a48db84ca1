-- Sets of places: where a place in one comes from.
use Prim.Native.Nat.{ℕ, ◌+◌}
use mathlib.Core.Path.{◌≡◌, refl, sym, ap, ap₂, ◌∙◌, subst}
use mathlib.Core.Logic.{◌⊎◌, inl, inr}
use mathlib.Core.Bool.{Bool, true, false, false≢true, true≢false}
use mathlib.Core.List.{List, [], ◌∷◌}
use lib.Dec.{eqb}
use borrow.Author.Tests.{eqb-true, eq-eqb}
use Rattle.syntax.specs.Result.{pick}
use Rattle.syntax.specs.Script.{Place}
use Rattle.statics.specs.Links.{Link, boxed, shared, exclusive}
use Rattle.statics.specs.Places.{same_place, before, member, insert, unite, every, some_of, only, rooted}
use Rattle.statics.specs.Environment.{places, borrow_end, Environment, borrow_of, borrows_at}
use Rattle.statics.specs.Follow.{past}
use Rattle.statics.specs.Neat.{place, Among}

same_place_law : (p q : Place) → same_place p q ≡ true → p ≡ q
unfolding same_place
same_place_law p q h = go (eqb p.root q.root) refl h
  where
    go : (b : Bool) → eqb p.root q.root ≡ b → pick b (eqb p.follows q.follows) false ≡ true → p ≡ q
    go true e k = ap₂ place (eqb-true _ _ e) (eqb-true _ _ k)
    go false e k = absurd (false≢true k)

same_self : (p : Place) → same_place p p ≡ true
unfolding same_place
same_self p = go (eqb p.root p.root) (eq-eqb p.root p.root refl)
  where
    go : (b : Bool) → b ≡ true → pick b (eqb p.follows p.follows) false ≡ true
    go true e = eq-eqb p.follows p.follows refl
    go false e = absurd (false≢true e)

pub member_in : (p : Place) (qs : List Place) → member p qs ≡ true → Among p qs
unfolding member
member_in p [] h = absurd (false≢true h)
member_in p (q ∷ qs) h = go (λ k. member_in p qs k) (same_place p q) refl h
  where
    go : (member p qs ≡ true → Among p qs) → (b : Bool) → same_place p q ≡ b → pick b true (member p qs) ≡ true → (p ≡ q) ⊎ Among p qs
    go ih true e k = inl (same_place_law p q e)
    go ih false e k = inr (ih k)

pub member_not : (p : Place) (qs : List Place) → member p qs ≡ false → Among p qs → ⊥
unfolding member
member_not p [] h i = i
member_not p (q ∷ qs) h i = go (λ k j. member_not p qs k j) (same_place p q) refl h i
  where
    go : (member p qs ≡ false → Among p qs → ⊥) → (b : Bool) → same_place p q ≡ b → pick b true (member p qs) ≡ false → (p ≡ q) ⊎ Among p qs → ⊥
    go ih true e k j = true≢false k
    go ih false e k (inl j) = false≢true (sym e ∙ ap (λ (y : Place). same_place p y) (sym j) ∙ same_self p)
    go ih false e k (inr j) = ih k j

-- ---- sets united

pub insert_out : (p k : Place) (qs : List Place) → Among k (insert p qs) → (k ≡ p) ⊎ Among k qs
unfolding insert
insert_out p k [] i = i
insert_out p k (q ∷ qs) i = go (same_place p q) (before p q) (λ j. insert_out p k qs j) i
  where
    go : (b c : Bool) → (Among k (insert p qs) → (k ≡ p) ⊎ Among k qs) → Among k (pick b (q ∷ qs) (pick c (p ∷ q ∷ qs) (q ∷ insert p qs)))
        → (k ≡ p) ⊎ ((k ≡ q) ⊎ Among k qs)
    go true c ih j = inr j
    go false true ih j = j
    go false false ih (inl j) = inr (inl j)
    go false false ih (inr j) = elim (ih j) [ inl u ↦ inl u | inr u ↦ inr (inr u) ]

pub unite_out : (k : Place) (ps qs : List Place) → Among k (unite ps qs) → (Among k ps) ⊎ (Among k qs)
unfolding unite
unite_out k [] qs h = inr h
unite_out k (p ∷ ps) qs h = elim (insert_out p k (unite ps qs) h) [ inl e ↦ inl (inl e) | inr j ↦ elim (unite_out k ps qs j) [ inl u ↦ inl (inr u) | inr u ↦ inr u ] ]

inserted : (p : Place) (qs : List Place) → Among p (insert p qs)
unfolding insert
inserted p [] = inl refl
inserted p (q ∷ qs) = go (same_place p q) refl (before p q) (inserted p qs)
  where
    go : (b : Bool) → same_place p q ≡ b → (c : Bool) → Among p (insert p qs) → Among p (pick b (q ∷ qs) (pick c (p ∷ q ∷ qs) (q ∷ insert p qs)))
    go true e c ih = inl (same_place_law p q e)
    go false e true ih = inl refl
    go false e false ih = inr ih

insert_keeps : (p k : Place) (qs : List Place) → Among k qs → Among k (insert p qs)
unfolding insert
insert_keeps p k [] i = absurd i
insert_keeps p k (q ∷ qs) i = go (same_place p q) (before p q) (λ j. insert_keeps p k qs j) i
  where
    go : (b c : Bool) → (Among k qs → Among k (insert p qs)) → (k ≡ q) ⊎ Among k qs → Among k (pick b (q ∷ qs) (pick c (p ∷ q ∷ qs) (q ∷ insert p qs)))
    go true c ih j = j
    go false true ih j = inr j
    go false false ih (inl j) = inl j
    go false false ih (inr j) = inr (ih j)

pub unite_right : (p : Place) (ps qs : List Place) → Among p qs → Among p (unite ps qs)
unfolding unite
unite_right p [] qs h = h
unite_right p (q ∷ ps) qs h = insert_keeps q p (unite ps qs) (unite_right p ps qs h)

pub unite_left : (p : Place) (ps qs : List Place) → Among p ps → Among p (unite ps qs)
unfolding unite
unite_left p [] qs h = absurd h
unite_left p (q ∷ ps) qs (inl e) = subst (λ (k : Place). Among k (insert q (unite ps qs))) (sym e) (inserted q (unite ps qs))
unite_left p (q ∷ ps) qs (inr h) = insert_keeps q p (unite ps qs) (unite_left p ps qs h)

-- ---- tests on all places of a set, and those that pass one

pub every_in : (f : Place → Bool) (p : Place) (ps : List Place) → every f ps ≡ true → Among p ps → f p ≡ true
unfolding every
every_in f p [] h i = absurd i
every_in f p (q ∷ ps) h i = go (λ k j. every_in f p ps k j) (f q) refl h i
  where
    go : (every f ps ≡ true → Among p ps → f p ≡ true) → (b : Bool) → f q ≡ b → pick b (every f ps) false ≡ true → (p ≡ q) ⊎ Among p ps → f p ≡ true
    go ih true e k (inl j) = ap f j ∙ e
    go ih true e k (inr j) = ih k j
    go ih false e k j = absurd (false≢true k)

pub only_out : (f : Place → Bool) (p : Place) (ps : List Place) → Among p (only f ps) → (Among p ps) × (f p ≡ true)
unfolding only
only_out f p [] h = absurd h
only_out f p (q ∷ ps) h = go (λ k. only_out f p ps k) (f q) refl h
  where
    go : (Among p (only f ps) → (Among p ps) × (f p ≡ true)) → (c : Bool) → f q ≡ c → Among p (pick c (q ∷ only f ps) (only f ps)) → ((p ≡ q) ⊎ Among p ps) × (f p ≡ true)
    go ih true e (inl j) = (inl j, ap f j ∙ e)
    go ih true e (inr j) = let k = ih j in (inr k.0, k.1)
    go ih false e j = let k = ih j in (inr k.0, k.1)

pub only_in : (f : Place → Bool) (p : Place) (ps : List Place) → Among p ps → f p ≡ true → Among p (only f ps)
unfolding only
only_in f p [] i h = absurd i
only_in f p (q ∷ ps) i h = go (λ j. only_in f p ps j h) (f q) refl i
  where
    go : (Among p ps → Among p (only f ps)) → (b : Bool) → f q ≡ b → (p ≡ q) ⊎ Among p ps → Among p (pick b (q ∷ only f ps) (only f ps))
    go ih true e (inl j) = inl j
    go ih true e (inr j) = inr (ih j)
    go ih false e (inl j) = absurd (false≢true (sym e ∙ ap f (sym j) ∙ h))
    go ih false e (inr j) = ih j

some_in : (f : Place → Bool) (p : Place) (ps : List Place) → Among p ps → f p ≡ true → some_of f ps ≡ true
unfolding some_of
some_in f p [] i h = absurd i
some_in f p (q ∷ ps) i h = go (λ j. some_in f p ps j h) (f q) refl i
  where
    go : (Among p ps → some_of f ps ≡ true) → (b : Bool) → f q ≡ b → (p ≡ q) ⊎ Among p ps → pick b true (some_of f ps) ≡ true
    go ih true e j = refl
    go ih false e (inl j) = absurd (false≢true (sym e ∙ ap f (sym j) ∙ h))
    go ih false e (inr j) = ih j

some_out : (f : Place → Bool) (ps : List Place) → some_of f ps ≡ true → (q : Place) × (Among q ps) × (f q ≡ true)
unfolding some_of
some_out f [] h = absurd (false≢true h)
some_out f (q ∷ ps) h = go (λ k. some_out f ps k) (f q) refl h
  where
    go : (some_of f ps ≡ true → (q : Place) × (Among q ps) × (f q ≡ true)) → (c : Bool) → f q ≡ c → pick c true (some_of f ps) ≡ true → (k : Place) × ((k ≡ q) ⊎ Among k ps) × (f k ≡ true)
    go ih true e k = (q, inl refl, e)
    go ih false e k = let j = ih k in (j.0, inr j.1, j.2)

pub rooted_in : (p : Place) (ps : List Place) → Among p ps → rooted ps p.root ≡ true
unfolding rooted
rooted_in p ps i = some_in (λ q. eqb q.root p.root) p ps i (eq-eqb p.root p.root refl)

pub rooted_out : (ps : List Place) (x : ℕ) → rooted ps x ≡ true → (q : Place) × (Among q ps) × (q.root ≡ x)
unfolding rooted
rooted_out ps x h = let k = some_out (λ q. eqb q.root x) ps h in (k.0, k.1, eqb-true _ _ k.2)

-- None has the root x.
pub rooted_not : (p : Place) (ps : List Place) (x : ℕ) → rooted ps x ≡ false → Among p ps → p.root ≡ x → ⊥
rooted_not p ps x h i e = true≢false (sym (rooted_in p ps i) ∙ ap (rooted ps) e ∙ h)

-- ---- places led on to, and places borrowed

pub past_in : (p : Place) (ps : List Place) (s : ℕ) → Among p ps → Among (place p.root (p.follows + s)) (past ps s)
unfolding past
past_in p [] s h = absurd h
past_in p (q ∷ ps) s (inl e) = inl (ap (λ (k : Place). place k.root (k.follows + s)) e)
past_in p (q ∷ ps) s (inr h) = inr (past_in p ps s h)

pub past_out : (n : Place) (ps : List Place) (s : ℕ) → Among n (past ps s) → (p : Place) × (Among p ps) × (n ≡ place p.root (p.follows + s))
unfolding past
past_out n [] s h = absurd h
past_out n (q ∷ ps) s (inl e) = (q, inl refl, e)
past_out n (q ∷ ps) s (inr h) = let k = past_out n ps s h in (k.0, inr k.1, k.2)

pub borrows_out : (Γ : Environment) (p : Place) (qs : List Place) → Among p (borrows_at Γ qs) → (q : Place) × (Among q qs) × (Among p (places (borrow_of (Γ q.root))))
unfolding borrows_at
borrows_out Γ p [] h = absurd h
borrows_out Γ p (q ∷ qs) h = go (λ k. borrows_out Γ p qs k) (unite_out p (places (borrow_of (Γ q.root))) (borrows_at Γ qs) h)
  where
    go : (Among p (borrows_at Γ qs) → (q : Place) × (Among q qs) × (Among p (places (borrow_of (Γ q.root))))) → (Among p (places (borrow_of (Γ q.root)))) ⊎ (Among p (borrows_at Γ qs)) → (k : Place) × ((k ≡ q) ⊎ Among k qs) × (Among p (places (borrow_of (Γ k.root))))
    go ih (inl k) = (q, inl refl, k)
    go ih (inr k) = let j = ih k in (j.0, inr j.1, j.2)

pub borrows_in : (Γ : Environment) (p q : Place) (qs : List Place) → Among q qs → Among p (places (borrow_of (Γ q.root))) → Among p (borrows_at Γ qs)
unfolding borrows_at
borrows_in Γ p q [] i h = absurd i
borrows_in Γ p q (k ∷ qs) (inl e) h =
    unite_left p (places (borrow_of (Γ k.root))) (borrows_at Γ qs) (subst (λ (y : Place). Among p (places (borrow_of (Γ y.root)))) e h)
borrows_in Γ p q (k ∷ qs) (inr i) h = unite_right p (places (borrow_of (Γ k.root))) (borrows_at Γ qs) (borrows_in Γ p q qs i h)

pub end_out : (ks : List Link) (ps : List Place) (p : Place) → Among p (places (borrow_end ks ps)) → Among p ps
unfolding borrow_end
end_out [] ps p h = absurd h
end_out (boxed ∷ ks) ps p h = end_out ks ps p h
end_out (shared ∷ ks) ps p h = h
end_out (exclusive ∷ ks) ps p h = h
