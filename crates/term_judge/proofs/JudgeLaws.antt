-- A term with an inner term: refused as the inner term is, or else judged by the rule that follows it.
use Prim.Native.Nat.{ℕ}
use mathlib.Core.Path.{◌≡◌, refl, sym, ap, ◌∙◌}
use mathlib.Core.Option.{none, some}
use mathlib.Core.List.{List}
use Rattle.std.specs.Prelude.{Result}
use Rattle.syntax.specs.declared.refusals.Refusal as code
use Rattle.syntax.specs.Result.{ok, err, Refusal, ◌>>=◌}
use Rattle.syntax.specs.RowTrees.{RowTree, IsTree, around}
use Rattle.variables.specs.declared.table.Row.{Row}
use Rattle.statics.specs.Rules.{Judged, Out}
use Rattle.variables.specs.Verdicts.{Verdict, answered}
use Rattle.term_judge.specs.declared.terms.Judged as terms
use Rattle.term_judge.specs.JudgeRows.{Ended, at_row, ended, judged_at}

-- What `judged_term` makes of a verdict, where that is the definition's answer.
pub told_ended : (i j : ℕ) (t : Verdict) (r : Result terms.Judged code.Refusal) (R : Judged Out) → ((env : List Row) → ended env r ≡ at_row j (answered env i t)) → (env : List Row) → answered env i t ≡ R → ended env r ≡ at_row j R
told_ended i j t r R J env w = J env ∙ ap (at_row j) w

-- What the code's answer says of the definition's answer R, which ends at row j.
module _ (R : Judged Out) (j : ℕ) where
  pub refused_is : (x : Refusal) → err x ≡ at_row j R → R ≡ err x
  unfolding ◌>>=◌
  refused_is x e = go R e
    where
      go : (R : Judged Out) → err x ≡ at_row j R → R ≡ err x
      go (ok o) z = cc
      go (err y) z = cc

  pub fine_is : (o : Out × ℕ) → ok o ≡ at_row j R → (R ≡ ok o.0) × (o.1 ≡ j)
  unfolding ◌>>=◌
  fine_is o e = go R e
    where
      go : (R : Judged Out) → ok o ≡ at_row j R → (R ≡ ok o.0) × (o.1 ≡ j)
      go (ok u) z =
          let y : ◌≡◌ {A = Out × ℕ} o (u, j) = cc in
          (ap (λ (x : Out × ℕ). ok x.0) (sym y), ap (λ (x : Out × ℕ). x.1) y)
      go (err x) z = cc

-- f makes the term, K is the rule that follows its inner term.
module _ {A B : Type 0} (f : A → B) (J : A → ℕ → Judged Out) (J' : B → ℕ → Judged Out) (K : Out → Judged Out) (rule : (a : A) (j : ℕ) → J' (f a) j ≡ (J a j >>= K)) where
  pub inner_refused : (d : RowTree A) → IsTree d → (x : Refusal) → err x ≡ judged_at J d → err x ≡ judged_at J' (around f d)
  unfolding judged_at ◌>>=◌
  inner_refused none h x e = absurd h
  inner_refused (some r) h x e = rw (rule r.0 r.1, refused_is (J r.0 r.1) r.1 x e)

  pub inner_fine : (d : RowTree A) → IsTree d → (o : Out × ℕ) → ok o ≡ judged_at J d → (E : Ended) → E ≡ at_row o.1 (K o.0) → E ≡ judged_at J' (around f d)
  unfolding judged_at ◌>>=◌
  inner_fine none h o e E w = absurd h
  inner_fine (some r) h o e E w =
      let z = fine_is (J r.0 r.1) r.1 o e in
      w ∙ rw (z.1, rule r.0 r.1, z.0)

-- The same, whatever the inner term's answer; the rule may ask for the row after it.
bind_row : (R : Judged Out) (j : ℕ) (K : ℕ → Out → Judged Out) → at_row j (R >>= K j) ≡ (at_row j R >>= λ o. at_row o.1 (K o.1 o.0))
unfolding ◌>>=◌
bind_row (ok o) j K = refl
bind_row (err e) j K = refl

pub inner_step : {A B : Type 0} (f : A → B) (J : A → ℕ → Judged Out) (J' : B → ℕ → Judged Out) (K : ℕ → Out → Judged Out) → ((a : A) (j : ℕ) → J' (f a) j ≡ (J a j >>= K j)) → (d : RowTree A) → IsTree d → judged_at J' (around f d) ≡ (judged_at J d >>= λ o. at_row o.1 (K o.1 o.0))
unfolding judged_at
inner_step f J J' K rule none h = absurd h
inner_step f J J' K rule (some r) h = rw (rule r.0 r.1) (bind_row (J r.0 r.1) r.1 K)
