-- The two blocks of a choice are read one after the other, as the terms of a block of two are: in bytes and in rows.
use Prim.Native.Nat.{ℕ}
use native.Mathlib.Omega.{arith}
use mathlib.Core.Path.{◌≡◌, refl, sym, ap, ap₂, ◌∙◌}
use mathlib.Core.Bool.{Bool, true}
use mathlib.Core.List.{List, ◌++◌}
use Rattle.syntax.specs.Result.{Result, ok, err, Refusal}
use Rattle.syntax.specs.Script.{Term, Terms, choice, last, more}
use Rattle.syntax.specs.Kinds.{k_block, k_choice}
use Rattle.syntax.specs.Layout.{in_rows, zeros, unused, head, place_of, others, lay, lays}
use Rattle.syntax.specs.Reader.{Cursor, Reads, done, several, place_at, branch, built}
use Rattle.syntax.specs.Measures.{kind_in}
use Rattle.syntax.proofs.Answers.{err_ok, go_on, stops}
use Rattle.syntax.proofs.Building.{several_count, two_more, only_two, a_block}
use Rattle.syntax.proofs.TermSteps.{choice_first, choice_second}

abbrev first : Terms → Term
first (last t) = t
first (more t ts) = t

abbrev second : Terms → Term
second (last t) = t
second (more t ts) = first ts

-- The choice with these two terms as its blocks.
unfoldable pub branched : ℕ → List ℕ → Terms → Term
branched i vs ts = choice i (place_at vs 0) (branch (first ts)).0 (branch (first ts)).1 (branch (second ts)).0 (branch (second ts)).1

module _ (i : ℕ) (vs : List ℕ) (inner : Bool → Reads Term) (s : Cursor) where
  pub branches_err : (e : Refusal) → several (inner true) 1 s ≡ err e → built k_choice i vs inner s ≡ err e
  unfolding several
  branches_err e h = go (inner true s) refl
    where
      is : (x : Refusal) → several (inner true) 1 s ≡ err x → x ≡ e
      is x q = cc (q, h)

      again : (a : Term) (s₁ : Cursor) → inner true s ≡ ok (a, s₁) → (o : Result Refusal (Term × Cursor)) → inner true s₁ ≡ o → built k_choice i vs inner s ≡ err e
      again a s₁ q (ok o) k = err_ok (sym h ∙ two_more (inner true) s s₁ o.1 a o.0 q k)
      again a s₁ q (err x) k = choice_second i vs inner s a s₁ x q k ∙ ap err (is x (go_on (inner true) _ s s₁ a _ q (stops (several (inner true) 0) _ s₁ x (stops (inner true) _ s₁ x k))))

      go : (o : Result Refusal (Term × Cursor)) → inner true s ≡ o → built k_choice i vs inner s ≡ err e
      go (ok o) q = again o.0 o.1 q (inner true o.1) refl
      go (err x) q = choice_first i vs inner s x q ∙ ap err (is x (stops (inner true) _ s x q))

  pub branches_ok : (ts : Terms) (s' : Cursor) → several (inner true) 1 s ≡ ok (ts, s') → built k_choice i vs inner s ≡ ok (branched i vs ts, s')
  unfolding built branched others done
  branches_ok (last a) s' h = absurd (omega (arith, several_count (inner true) 1 s s' (last a) h))
  branches_ok (more a (last b)) s' h =
      let r = only_two (inner true) s s' a b h in
      go_on (inner true) _ s r.0 a _ r.1 (go_on (inner true) _ r.0 s' b _ r.2 refl)
  branches_ok (more a (more b ts)) s' h = absurd (omega (arith, several_count (inner true) 1 s s' (more a (more b ts)) h))

  -- In rows they stand behind the choice's own row.
  module _ (blocks : (s s' : Cursor) (t : Term) → inner true s ≡ ok (t, s') → kind_in t ≡ k_block) where
    pub branches_laid : (ts : Terms) (s' : Cursor) → several (inner true) 1 s ≡ ok (ts, s') → lay in_rows (branched i vs ts) ≡ head in_rows k_choice (place_of (place_at vs 0)) ++ lays in_rows ts
    unfolding branched lay lays head unused zeros others
    branches_laid (last a) s' h = absurd (omega (arith, several_count (inner true) 1 s s' (last a) h))
    branches_laid (more a (last b)) s' h =
        let r = only_two (inner true) s s' a b h in
        ap₂ (λ (x y : Term). head in_rows k_choice (place_of (place_at vs 0)) ++ (lay in_rows x ++ lay in_rows y)) (a_block a (blocks s r.0 a r.1)) (a_block b (blocks r.0 s' b r.2))
    branches_laid (more a (more b ts)) s' h = absurd (omega (arith, several_count (inner true) 1 s s' (more a (more b ts)) h))
