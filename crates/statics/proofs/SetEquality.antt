-- Lists of places with the same members, each once: what the rules ask of them is the same.
use Prim.Native.Nat.{ℕ, ◌<◌}
use native.Mathlib.Omega.{arith}
use mathlib.Core.Path.{◌≡◌, refl, sym, ap, ap₂, ◌∙◌, subst}
use mathlib.Core.Logic.{◌⊎◌, inl, inr}
use mathlib.Core.Bool.{Bool, true, false}
use mathlib.Core.List.{List, [], ◌∷◌}
use Rattle.syntax.specs.Result.{pick}
use Rattle.syntax.specs.Script.{Place}
use Rattle.statics.specs.Places.{before, every, only, rooted}
use Rattle.statics.specs.Environment.{Borrow, Environment, refilled, widened, single, write}
use Rattle.statics.specs.Neat.{Among, Distinct, SameSet, Ordered}
use Rattle.statics.proofs.Answers.{same_bool}
use Rattle.statics.proofs.SetLaws.{every_in, only_out, only_in, rooted_in, rooted_out}
use Rattle.statics.proofs.SetOrder.{before_is}

pub turned : {ps qs : List Place} → SameSet ps qs → SameSet qs ps
turned S = record { to = S.from; from = S.to; once = S.once'; once' = S.once }

-- ---- sets in order

not_before : (p : Place) → before p p ≡ true → ⊥
not_before p h = go (before_is p p h)
  where
    go : (p.root < p.root) ⊎ ((p.root ≡ p.root) × (p.follows < p.follows)) → ⊥
    go (inl k) = omega arith
    go (inr k) = omega (arith, k.1)

not_both : (p q : Place) → before p q ≡ true → before q p ≡ true → ⊥
not_both p q h k = go (before_is p q h) (before_is q p k)
  where
    go : (p.root < q.root) ⊎ ((p.root ≡ q.root) × (p.follows < q.follows)) → (q.root < p.root) ⊎ ((q.root ≡ p.root) × (q.follows < p.follows)) → ⊥
    go (inl a) (inl b) = omega arith
    go (inl a) (inr b) = omega (arith, b.0)
    go (inr a) (inl b) = omega (arith, a.0)
    go (inr a) (inr b) = omega (arith, a.1, b.1)

-- Two sets in order with the same members are the same list.
pub same_list : (ps qs : List Place) → Ordered ps → Ordered qs → ((p : Place) → Among p ps → Among p qs) → ((p : Place) → Among p qs → Among p ps) → ps ≡ qs
same_list [] [] o u f g = refl
same_list [] (q ∷ qs) o u f g = absurd (g q (inl refl))
same_list (p ∷ ps) [] o u f g = absurd (f p (inl refl))
same_list (p ∷ ps) (q ∷ qs) o u f g =
    let e = head (f p (inl refl)) (g q (inl refl)) in
    ap₂ (λ (y : Place) (k : List Place). y ∷ k) e (same_list ps qs o.1 u.1 (λ r i. tail_to e r i (f r (inr i))) (λ r i. tail_from e r i (g r (inr i))))
  where
    head : (p ≡ q) ⊎ Among p qs → (q ≡ p) ⊎ Among q ps → p ≡ q
    head (inl e) j = e
    head (inr i) (inl e) = sym e
    head (inr i) (inr j) = absurd (not_both p q (o.0 q j) (u.0 p i))

    tail_to : p ≡ q → (r : Place) → Among r ps → (r ≡ q) ⊎ Among r qs → Among r qs
    tail_to e r i (inl j) = absurd (not_before p (subst (λ (y : Place). before p y ≡ true) (j ∙ sym e) (o.0 r i)))
    tail_to e r i (inr j) = j

    tail_from : p ≡ q → (r : Place) → Among r qs → (r ≡ p) ⊎ Among r ps → Among r ps
    tail_from e r i (inl j) = absurd (not_before q (subst (λ (y : Place). before q y ≡ true) (j ∙ e) (u.0 r i)))
    tail_from e r i (inr j) = j

-- ---- what the rules ask

pub all_pass : (f : Place → Bool) (ps : List Place) → ((p : Place) → Among p ps → f p ≡ true) → every f ps ≡ true
unfolding every
all_pass f [] h = refl
all_pass f (p ∷ ps) h = rw (h p (inl refl)) (all_pass f ps (λ q i. h q (inr i)))

only_once : (f : Place → Bool) (ps : List Place) → Distinct ps → Distinct (only f ps)
unfolding only
only_once f [] d = tt
only_once f (p ∷ ps) d = go (f p) (only_once f ps d.1)
  where
    go : (b : Bool) → Distinct (only f ps) → Distinct (pick b (p ∷ only f ps) (only f ps))
    go true ih = (λ i. d.0 (only_out f p ps i).0, ih)
    go false ih = ih

module _ {ps qs : List Place} (S : SameSet ps qs) where
  pub every_same : (f : Place → Bool) → every f ps ≡ every f qs
  every_same f = same_bool (every f ps) (every f qs)
      (λ h. all_pass f qs (λ p i. every_in f p ps h (S.from p i)))
      (λ h. all_pass f ps (λ p i. every_in f p qs h (S.to p i)))

  pub only_same : (f : Place → Bool) → SameSet (only f ps) (only f qs)
  only_same f = record {
    to = λ p i. let k = only_out f p ps i in only_in f p qs (S.to p k.0) k.1;
    from = λ p i. let k = only_out f p qs i in only_in f p ps (S.from p k.0) k.1;
    once = only_once f ps S.once;
    once' = only_once f qs S.once';
  }

  rooted_same : (x : ℕ) → rooted ps x ≡ rooted qs x
  rooted_same x = same_bool (rooted ps x) (rooted qs x)
      (λ h. let k = rooted_out ps x h in ap (rooted qs) (sym k.2) ∙ rooted_in k.0 qs (S.to k.0 k.1))
      (λ h. let k = rooted_out qs x h in ap (rooted ps) (sym k.2) ∙ rooted_in k.0 ps (S.from k.0 k.1))

one_only : (p a b : Place) → (a ≡ p) ⊎ ⊥ → (b ≡ p) ⊎ ⊥ → a ≡ b
one_only p a b (inl e) (inl f) = e ∙ sym f
one_only p a b (inl e) (inr f) = absurd f
one_only p a b (inr e) f = absurd e

-- Whether it is one alone.
single_same : (ps qs : List Place) → SameSet ps qs → single ps ≡ single qs
single_same [] [] S = refl
single_same [] (q ∷ []) S = absurd (S.from q (inl refl))
single_same [] (q ∷ r ∷ qs) S = refl
single_same (p ∷ []) [] S = absurd (S.to p (inl refl))
single_same (p ∷ []) (q ∷ []) S = refl
single_same (p ∷ []) (q ∷ r ∷ qs) S = absurd (S.once'.0 (inl (one_only p q r (S.from q (inl refl)) (S.from r (inr (inl refl))))))
single_same (p ∷ r ∷ ps) [] S = refl
single_same (p ∷ r ∷ ps) (q ∷ []) S = absurd (S.once.0 (inl (one_only q p r (S.to p (inl refl)) (S.to r (inr (inl refl))))))
single_same (p ∷ r ∷ ps) (q ∷ s ∷ qs) S = refl

-- What is known after a value is written there.
pub write_same : (Γ : Environment) (ps qs : List Place) (b : Borrow) → SameSet ps qs → (x : ℕ) → write Γ ps b x ≡ write Γ qs b x
unfolding write
write_same Γ ps qs b S x =
    ap₂ (λ (c d : Bool). pick c (pick d (refilled (Γ x) b) (widened (Γ x) b)) (Γ x)) (rooted_same S x) (single_same ps qs S)
