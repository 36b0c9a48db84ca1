-- Terms that stand around one inner term, several of them, each around the next. On the way inwards each begins in the state that the one
-- around it left; on the way outwards that state says what is known of the table.
use Prim.Native.Nat.{ℕ, zero, suc, ◌+◌, ◌-◌, ◌<◌, ◌≤◌}
use native.Mathlib.Omega.{arith}
use native.Mathlib.Decide.{dec_lt}
use native.Mathlib.Numerals.{add-one}
use mathlib.Core.Path.{◌≡◌, refl, sym, ◌∙◌, ap, subst}
use mathlib.Core.Logic.{⊎_elim}
use mathlib.Core.Bool.{true}
use mathlib.Core.List.{List}
use Rattle.syntax.specs.Result.{ok, err, Refusal, ◌>>=◌}
use Rattle.syntax.specs.Kinds.{wraps_of}
use Rattle.syntax.specs.RowParts.{field_at}
use Rattle.syntax.specs.RowTrees.{IsTree, tree_at}
use Rattle.syntax.proofs.KindBytes.{wrapping}
use Rattle.syntax.proofs.RowTreeLaws.{wrapped_inner}
use Rattle.statics.specs.Environment.{used, Environment, update, is_free}
use Rattle.statics.specs.Uses.{Unfinished}
use Rattle.statics.specs.Rules.{Judged}
use Rattle.statics.specs.Neat.{Neat}
use Rattle.std.specs.Prelude as prelude
use Rattle.syntax.specs.declared.refusals.Refusal as answer
use Rattle.term_judge.specs.declared.terms.Judged as code
use Rattle.variables.specs.declared.table.Row.{Row}
use Rattle.variables.specs.Table.{environment_of}
use Rattle.variables.specs.Verdicts.{as_value}
use Rattle.uses.specs.RowUses.{later_in}
use Rattle.term_judge.specs.JudgeRows.{Ended, told_as, ended, judge_at, begin_at, AfterReady, after_at}
use Rattle.uses.specs.RowPlaces.{Wraps, AllWrap}
use Rattle.statics.proofs.Answers.{was_free}
use Rattle.statics.proofs.Slots.{update_same}
use Rattle.statics.proofs.NeatSteps.{Fine, neat_take}
use Rattle.term_judge.proofs.AroundLaws.{begin_ok, ok_is, wrapped, wrapped_fine, wrapped_refused}
use Rattle.script_judge.proofs.TreeStates.{fine_tree}

-- ---- one of them

-- The term at row i begins in Γ, and its inner term is judged in Γ₁.
pub record Begins (rows : List ℕ) (i : ℕ) (Γ Γ₁ : Environment) : Type 0 where
  pub kind : wraps_of (field_at rows i 0) ≡ true
  pub to : begin_at rows i Γ ≡ ok Γ₁

module _ (rows : List ℕ) (i : ℕ) (Γ Γ₁ : Environment) (B : Begins rows i Γ Γ₁) where
  -- A let's number was free, and is taken.
  let_begun : field_at rows i 0 ≡ 8 → (is_free (Γ (field_at rows i 1)) ≡ true) × (update Γ (field_at rows i 1) used ≡ Γ₁)
  unfolding begin_at
  let_begun k = begin_ok (is_free (Γ (field_at rows i 1))) (30, i) (update Γ (field_at rows i 1) used) Γ₁ (rw k at B.to)

  begun_taken : field_at rows i 0 ≡ 8 → Γ₁ (field_at rows i 1) ≡ used
  begun_taken k = rw (← (let_begun k).1) (update_same Γ (field_at rows i 1) used)

  begun_neat : (nv level : ℕ) → Neat nv Γ level → Neat nv Γ₁ level
  unfolding begin_at
  begun_neat nv level N = ⊎_elim (λ k. other (rw k at B.to)) (λ h. ⊎_elim bound (λ k. other (rw k at B.to)) h) (wrapping (field_at rows i 0) B.kind)
    where
      other : ◌≡◌ {A = Judged Environment} (ok Γ) (ok Γ₁) → Neat nv Γ₁ level
      other e = subst (λ (Δ : Environment). Neat nv Δ level) (ok_is Γ Γ₁ e) N

      bound : field_at rows i 0 ≡ 8 → Neat nv Γ₁ level
      bound k = let z = let_begun k in subst (λ (Δ : Environment). Neat nv Δ level) z.1 (neat_take (field_at rows i 1) (was_free (Γ (field_at rows i 1)) z.0) N)

-- ---- several

module _ (rows : List ℕ) (i : ℕ) where
  -- n terms in from row i on, which began in Γ₀: the next is judged in Γ.
  unfoldable pub Inwards : Environment → ℕ → Environment → Type 0
  Inwards Γ₀ zero Γ = Γ ≡ Γ₀
  Inwards Γ₀ (suc n) Γ = (Γ' : Environment) × Inwards Γ₀ n Γ' × Begins rows (i + n) Γ' Γ

  pub inwards_start : (Γ : Environment) → Inwards Γ 0 Γ
  unfolding Inwards
  inwards_start Γ = refl

  pub inwards_more : (Γ₀ : Environment) (n : ℕ) (Γ : Environment) → Inwards Γ₀ n Γ → wraps_of (field_at rows (i + n) 0) ≡ true → (Γ₁ : Environment) → begin_at rows (i + n) Γ ≡ ok Γ₁ → Inwards Γ₀ (n + 1) Γ₁
  unfolding Inwards
  inwards_more Γ₀ n Γ I w Γ₁ e = rw (add-one n) (Γ, I, record { kind = w; to = e })

  pub inwards_neat : (nv level : ℕ) (Γ₀ : Environment) → Neat nv Γ₀ level → (n : ℕ) (Γ : Environment) → Inwards Γ₀ n Γ → Neat nv Γ level
  unfolding Inwards
  inwards_neat nv level Γ₀ N zero Γ I = subst (λ (Δ : Environment). Neat nv Δ level) (sym I) N
  inwards_neat nv level Γ₀ N (suc n) Γ I = begun_neat rows (i + n) I.0 Γ I.2 nv level (inwards_neat nv level Γ₀ N n I.0 I.1)

module _ (nv levels : ℕ) (rows : List ℕ) (i : ℕ) (good : IsTree (tree_at nv levels rows i)) where
  pub inwards_tree : (Γ₀ : Environment) (n : ℕ) (Γ : Environment) → Inwards rows i Γ₀ n Γ → IsTree (tree_at nv (levels - n) rows (i + n))
  unfolding Inwards
  inwards_tree Γ₀ zero Γ I =
      let a : levels - 0 ≡ levels = omega arith in
      let b : i + 0 ≡ i = omega arith in
      rw (a, b) good
  inwards_tree Γ₀ (suc n) Γ I =
      let a : levels - suc n ≡ levels - n - 1 = omega arith in
      let b : i + suc n ≡ i + n + 1 = omega arith in
      rw (a, b) (wrapped_inner nv (levels - n) rows (i + n) (inwards_tree Γ₀ n I.0 I.1) I.2.kind)

  inwards_wrap : (Γ₀ : Environment) (n : ℕ) (Γ : Environment) → Inwards rows i Γ₀ n Γ → AllWrap nv rows i n
  unfolding Inwards
  inwards_wrap Γ₀ zero Γ I k h = absurd (omega arith)
  inwards_wrap Γ₀ (suc n) Γ I k h = go (inwards_wrap Γ₀ n I.0 I.1) (dec_lt k n)
    where
      go : AllWrap nv rows i n → Dec (k < n) → Wraps nv rows (i + k)
      go all (yes l) = all k l
      go all (no l) =
          let w : k ≡ n = omega arith in
          rw w (wrapped nv (levels - n) rows (i + n) (inwards_tree Γ₀ n I.0 I.1) I.2.kind)

  -- The same counted from row to row: all before the term n in, and all up to the term m in, which is the last before it.
  pub inwards_around : (Γ₀ : Environment) (n : ℕ) (Γ : Environment) → Inwards rows i Γ₀ n Γ → AllWrap nv rows i (i + n - i)
  inwards_around Γ₀ n Γ I =
      let w : i + n - i ≡ n = omega arith in
      rw w (inwards_wrap Γ₀ n Γ I)

  pub outwards_around : (Γ₀ : Environment) (n m : ℕ) (Γ : Environment) → n ≡ suc m → Inwards rows i Γ₀ n Γ → AllWrap nv rows i (i + m + 1 - i)
  outwards_around Γ₀ n m Γ q I =
      let w : i + m + 1 - i ≡ n = omega arith in
      rw w (inwards_wrap Γ₀ n Γ I)

module _ (nv levels : ℕ) (rows : List ℕ) (i : ℕ) (later : ℕ → Unfinished) where
  -- What has not finished once the term n in has: those around it, and what is after them.
  abbrev pub inside : ℕ → ℕ → Unfinished
  inside n next = later_in rows i n (later next)

  -- The answer of the term n in, where it is judged in Γ.
  abbrev pub answer_in : ℕ → ℕ → Environment → Ended
  answer_in level n Γ = judge_at nv (tree_at nv (levels - n) rows (i + n)) level (inside n) Γ

  -- The term n in has been judged, in that state: this is its answer.
  abbrev pub Outwards : ℕ → Environment → ℕ → Ended → Type 0
  Outwards level Γ₀ n E = (Γ : Environment) × Inwards rows i Γ₀ n Γ × (E ≡ answer_in level n Γ)

  -- The innermost term has been judged.
  pub outwards_start : (level : ℕ) (Γ₀ : Environment) (n : ℕ) (Γ : Environment) → Inwards rows i Γ₀ n Γ → (E : Ended)
      → E ≡ judge_at nv (tree_at nv (levels - n) rows (i + n)) level (λ next. later_in rows i (i + n - i) (later next)) Γ → Outwards level Γ₀ n E
  outwards_start level Γ₀ n Γ I E e =
      let w : i + n - i ≡ n = omega arith in
      (Γ, I, rw w at e)

  module _ (good : IsTree (tree_at nv levels rows i)) where
    module _ (level : ℕ) (Γ₀ : Environment) where
      -- A term's answer, from its inner term's.
      step : (n : ℕ) (Γ Γ' : Environment) → Inwards rows i Γ₀ n Γ' → Begins rows (i + n) Γ' Γ → answer_in level n Γ' ≡ after_at nv level rows (i + n) (inside n) (answer_in level (suc n) Γ)
      unfolding later_in
      step n Γ Γ' I B =
          let a : levels - suc n ≡ levels - n - 1 = omega arith in
          let b : i + suc n ≡ i + n + 1 = omega arith in
          rw (a, b) (wrapped_fine nv (levels - n) rows (i + n) (inwards_tree nv levels rows i good Γ₀ n Γ' I) B.kind level (inside n) Γ' Γ B.to)

      outermost : answer_in level 0 Γ₀ ≡ judge_at nv (tree_at nv levels rows i) level later Γ₀
      unfolding later_in
      outermost =
          let a : levels - 0 ≡ levels = omega arith in
          let b : i + 0 ≡ i = omega arith in
          rw (a, b)

      outer_refused : (n : ℕ) (Γ : Environment) → Inwards rows i Γ₀ n Γ → (x : Refusal) → answer_in level n Γ ≡ err x → err x ≡ judge_at nv (tree_at nv levels rows i) level later Γ₀
      unfolding Inwards ◌>>=◌
      outer_refused zero Γ I x e = sym (rw I at e) ∙ outermost
      outer_refused (suc n) Γ I x e = outer_refused n I.0 I.1 x (step n Γ I.0 I.1 I.2 ∙ ap (after_at nv level rows (i + n) (inside n)) e)

      -- A refusal on the way inwards is that of the outermost term.
      pub inwards_refused : (n : ℕ) (Γ : Environment) → Inwards rows i Γ₀ n Γ → wraps_of (field_at rows (i + n) 0) ≡ true → (x : Refusal) → begin_at rows (i + n) Γ ≡ err x → err x ≡ judge_at nv (tree_at nv levels rows i) level later Γ₀
      inwards_refused n Γ I w x e = outer_refused n Γ I x (wrapped_refused nv (levels - n) rows (i + n) (inwards_tree nv levels rows i good Γ₀ n Γ I) w level (inside n) Γ x e)

      -- The outermost term's answer.
      pub outwards_none : (n : ℕ) (E : Ended) → n ≤ 0 → Outwards level Γ₀ n E → E ≡ judge_at nv (tree_at nv levels rows i) level later Γ₀
      unfolding Inwards
      outwards_none zero E h O = rw O.1 at O.2 ∙ outermost
      outwards_none (suc n) E h O = absurd (omega arith)

      -- One term further out.
      pub outwards_less : (n m : ℕ) → n ≡ suc m → (E : Ended) → Outwards level Γ₀ n E → (E' : Ended) → E' ≡ after_at nv level rows (i + m) (λ next. later_in rows i (i + m - i) (later next)) E → Outwards level Γ₀ m E'
      unfolding Inwards
      outwards_less zero m q E O E' e = absurd (omega arith)
      outwards_less (suc n) m q E O E' e =
          let w : m ≡ n = omega arith in
          let I = O.1 in
          let v : i + m - i ≡ m = omega arith in
          let f : E' ≡ after_at nv level rows (i + m) (inside m) E = rw v at e in
          rw w (I.0, I.1, rw w at f ∙ ap (after_at nv level rows (i + n) (inside n)) O.2 ∙ sym (step n O.0 I.0 I.1 I.2))

      -- What is known of the table after the inner term.
      pub outwards_ready : (n m : ℕ) → n ≡ suc m → Neat nv Γ₀ level → (env : List Row) (inner : prelude.Result code.Judged answer.Refusal) → Outwards level Γ₀ n (ended env inner) → AfterReady nv level rows (i + m) env inner
      unfolding Inwards
      outwards_ready zero m q N env inner O = absurd (omega arith)
      outwards_ready (suc n) m q N env inner O =
          let w : m ≡ n = omega arith in
          let I = O.1 in
          rw w (record {
            neat = λ o e. (after o e).neat;
            value = λ o e. (after o e).value;
            taken = λ o e k. (after o e).taken (field_at rows (i + n) 1) (begun_taken rows (i + n) I.0 O.0 I.2 k);
          })
        where
          after : (o : code.Judged) → inner ≡ prelude.Ok o → Fine nv O.0 (environment_of env) (as_value env o.value) level
          after o e = fine_tree nv level (inside (suc n)) O.0 (inwards_neat rows i nv level Γ₀ N (suc n) O.0 O.1) (told_as env o) (levels - suc n) rows (i + suc n) (inwards_tree nv levels rows i good Γ₀ (suc n) O.0 O.1) (ap (ended env) (sym e) ∙ O.2)
