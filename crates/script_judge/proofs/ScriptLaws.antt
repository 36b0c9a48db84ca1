-- The whole script: the judge's answer from the term judge's.
use Prim.Native.Nat.{ℕ}
use native.Mathlib.Omega.{arith}
use mathlib.Core.Path.{◌≡◌, ◌∙◌}
use mathlib.Core.Bool.{Bool, false}
use mathlib.Core.Option.{none, some}
use mathlib.Core.List.{List, [], ◌++◌, append-nil}
use Rattle.syntax.specs.Result.{ok, err, Refusal, ◌>>=◌}
use Rattle.syntax.specs.Script.{Term}
use Rattle.syntax.specs.RowTrees.{RowTree, IsTree}
use Rattle.statics.specs.Environment.{Environment}
use Rattle.statics.specs.Uses.{Unfinished, finishing}
use Rattle.statics.specs.Rules.{Out}
use Rattle.statics.specs.Judge.{judge, nothing_taken, judge_script}
use Rattle.rules.specs.RuleAnswers.{judge_answer}
use Rattle.uses.specs.RowUses.{UsesFor, NamesBelow, later_at}
use Rattle.term_judge.specs.JudgeRows.{Ended, judged_at, judge_at, rest_at, script_at, EndsAt}
use Rattle.statics.proofs.SameLater.{SameLater, judged_alike}
use Rattle.term_judge.proofs.JudgeLaws.{refused_is, fine_is}
use Rattle.term_judge.proofs.LaterLaws.{nothing_later}
use Rattle.script_judge.proofs.BlockLaws.{one_judged}

-- Nothing is named after the tree.
abbrev pub LastTree : ℕ → (ℕ → Unfinished) → RowTree Term → Type 0
LastTree nv later none = Unit {0}
LastTree nv later (some r) = SameLater nv (later r.1) []

module _ (nv : ℕ) (f : ℕ → RowTree Term) (i : ℕ) (good : IsTree (f i)) (later : ℕ → Unfinished) (alone : LastTree nv later (f i)) (Γ : Environment) (start : Γ ≡ nothing_taken nv) where
  script_judged : (E : Ended) → E ≡ rest_at nv f 0 later 1 i none Γ → E ≡ judge_at nv (f i) 0 later Γ
  script_judged E e = e ∙ one_judged nv f 0 later i none Γ

  -- So only its own terms have not finished.
  judged_alone : (t : Term) (j : ℕ) → SameLater nv (later j) [] → judge nv t 0 (finishing t ++ later j) Γ ≡ judge nv t 0 (finishing t) (nothing_taken nv)
  judged_alone t j a = judged_alike nv t 0 (later j) [] Γ a ∙ rw (append-nil (finishing t), start)

  pub script_refused : (x : Refusal) → err x ≡ rest_at nv f 0 later 1 i none Γ → err x ≡ script_at nv (f i)
  unfolding judged_at script_at judge_script ◌>>=◌
  script_refused x e = go (f i) good alone (script_judged _ e)
    where
      go : (d : RowTree Term) → IsTree d → LastTree nv later d → err x ≡ judge_at nv d 0 later Γ → err x ≡ script_at nv d
      go none h a w = absurd h
      go (some t) h a w = let z = refused_is (judge nv t.0 0 (finishing t.0 ++ later t.1) Γ) t.1 x w in rw (← judged_alone t.0 t.1 a, z)

  pub script_fine : (o : Out × ℕ) → ok o ≡ rest_at nv f 0 later 1 i none Γ → judge_answer nv o.0.1 ≡ script_at nv (f i)
  unfolding judged_at script_at judge_script ◌>>=◌
  script_fine o e = go (f i) good alone (script_judged _ e)
    where
      go : (d : RowTree Term) → IsTree d → LastTree nv later d → ok o ≡ judge_at nv d 0 later Γ → judge_answer nv o.0.1 ≡ script_at nv d
      go none h a w = absurd h
      go (some t) h a w = let z = fine_is (judge nv t.0 0 (finishing t.0 ++ later t.1) Γ) t.1 o w in rw (← judged_alone t.0 t.1 a, z.0)

pub ends_tree : {A : Type 0} (d : RowTree A) (n : ℕ) → EndsAt d n → IsTree d
ends_tree none n h = absurd h
ends_tree (some r) n h = tt

-- Where the rows after the tree name nothing, and no term stands around it.
pub script_alone : (nv : ℕ) (rows uses : List ℕ) → UsesFor nv rows uses → (named : ℕ → Bool) → ((x : ℕ) → named x ≡ false) → (d : RowTree Term) (n : ℕ) → EndsAt d n → NamesBelow nv rows n → LastTree nv (later_at nv uses named) d
script_alone nv rows uses U named e none n h b = tt
script_alone nv rows uses U named e (some r) n h b = nothing_later nv rows uses U named r.1 (λ k a. b.nothing k (omega arith)) e
