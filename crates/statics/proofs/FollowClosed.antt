-- What following has met is closed: with each new place, what it leads on to.
use Prim.Native.Nat.{ℕ, zero, suc}
use mathlib.Core.Path.{◌≡◌, refl, sym, subst}
use mathlib.Core.Logic.{◌⊎◌, inl, inr}
use mathlib.Core.Bool.{Bool, true, false}
use mathlib.Core.Option.{none, some}
use mathlib.Core.List.{List, [], ◌∷◌}
use Rattle.syntax.specs.Result.{pick}
use Rattle.syntax.specs.Script.{Place}
use Rattle.statics.specs.Places.{member}
use Rattle.statics.specs.Environment.{Environment}
use Rattle.statics.specs.Follow.{onward, Met, on_met, meet_all, follow}
use Rattle.statics.specs.Neat.{Among}
use Rattle.statics.proofs.Answers.{none≢some}
use Rattle.statics.proofs.SetLaws.{member_in}

pub record Grown (Γ : Environment) (seen ps : List Place) : Type 0 where
  pub more : (q : Place) → Among q seen → Among q ps
  pub shut : (q : Place) → Among q ps → (Among q seen) ⊎ ((n : Place) → Among n (onward (Γ q.root) q.follows) → Among n ps)

module _ (Γ : Environment) where
  grown_none : (seen : List Place) → Grown Γ seen seen
  grown_none seen = record { more = λ q h. h; shut = λ q h. inl h }

  grown_both : (a b c : List Place) → Grown Γ a b → Grown Γ b c → Grown Γ a c
  grown_both a b c F G = record {
    more = λ q h. G.more q (F.more q h);
    shut = λ q h. elim (G.shut q h) [ inl i ↦ elim (F.shut q i) [ inl j ↦ inl j | inr j ↦ inr (λ n k. G.more n (j n k)) ] | inr i ↦ inr i ];
  }

  grown_all : (go : Place → List Place → Met) → ((q : Place) (s ps : List Place) → go q s ≡ some ps → (Grown Γ s ps) × (Among q ps))
      → (l seen ps : List Place) → meet_all l seen go ≡ some ps → (Grown Γ seen ps) × ((n : Place) → Among n l → Among n ps)
  unfolding meet_all on_met
  grown_all go ih [] seen ps h = let z : seen ≡ ps = cc in (subst (λ (k : List Place). Grown Γ seen k) z (grown_none seen), λ n i. absurd i)
  grown_all go ih (p ∷ l) seen ps h = first (λ s k. grown_all go ih l s ps k) (go p seen) refl h
    where
      first : ((s : List Place) → meet_all l s go ≡ some ps → (Grown Γ s ps) × ((n : Place) → Among n l → Among n ps))
          → (m : Met) → go p seen ≡ m → on_met m (λ s. meet_all l s go) ≡ some ps
          → (Grown Γ seen ps) × ((n : Place) → (n ≡ p) ⊎ Among n l → Among n ps)
      first rest none e k = absurd (none≢some k)
      first rest (some s) e k =
          let A = ih p seen s e in
          let B = rest s k in
          (grown_both seen s ps A.0 B.0, λ n i. elim i [ inl j ↦ subst (λ (y : Place). Among y ps) (sym j) (B.0.more p A.1) | inr j ↦ B.1 n j ])

  grown : (n : ℕ) (p : Place) (seen ps : List Place) → follow n Γ p seen ≡ some ps → (Grown Γ seen ps) × (Among p ps)
  unfolding follow
  grown zero p seen ps h = absurd (none≢some h)
  grown (suc n) p seen ps h = go (λ q s k e. grown n q s k e) (member p seen) refl h
    where
      go : ((q : Place) (s ps : List Place) → follow n Γ q s ≡ some ps → (Grown Γ s ps) × (Among q ps)) → (b : Bool) → member p seen ≡ b
          → pick b (some seen) (meet_all (onward (Γ p.root) p.follows) (p ∷ seen) (λ q s. follow n Γ q s)) ≡ some ps
          → (Grown Γ seen ps) × (Among p ps)
      go ih true e k =
          let z : seen ≡ ps = cc in
          (subst (λ (k : List Place). Grown Γ seen k) z (grown_none seen), subst (λ (k : List Place). Among p k) z (member_in p seen e))
      go ih false e k =
          let A = grown_all (λ q s. follow n Γ q s) ih (onward (Γ p.root) p.follows) (p ∷ seen) ps k in (
            record {
              more = λ q i. A.0.more q (inr i);
              shut = λ q i. elim (A.0.shut q i) [
                | inl j ↦ elim j [ inl u ↦ inr (λ n c. A.1 n (subst (λ (y : Place). Among n (onward (Γ y.root) y.follows)) u c)) | inr u ↦ inl u ]
                | inr j ↦ inr j
              ];
            },
            A.0.more p (inl refl),
          )

  -- From nothing seen: the place itself, and with each place what it leads on to.
  pub all_shut : (n : ℕ) (p : Place) (ps : List Place) → follow n Γ p [] ≡ some ps
      → (Among p ps) × ((q : Place) → Among q ps → (k : Place) → Among k (onward (Γ q.root) q.follows) → Among k ps)
  all_shut n p ps h = let A = grown n p [] ps h in (A.1, λ q i. elim (A.0.shut q i) [ inl j ↦ absurd j | inr j ↦ j ])
