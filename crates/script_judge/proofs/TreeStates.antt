-- A term that stands in rows and is accepted: the rules accept it, and a neat state is neat afterwards.
use Prim.Native.Nat.{ℕ}
use mathlib.Core.Path.{◌≡◌}
use mathlib.Core.Option.{none, some}
use mathlib.Core.List.{List, ◌++◌}
use Rattle.syntax.specs.Result.{ok}
use Rattle.syntax.specs.Script.{Term}
use Rattle.syntax.specs.RowTrees.{RowTree, IsTree, tree_at}
use Rattle.statics.specs.Environment.{Environment}
use Rattle.statics.specs.Uses.{Unfinished, finishing}
use Rattle.statics.specs.Rules.{Out}
use Rattle.statics.specs.Judge.{judge}
use Rattle.statics.specs.Neat.{Neat}
use Rattle.term_judge.specs.JudgeRows.{judged_at, judge_at}
use Rattle.term_judge.proofs.JudgeLaws.{fine_is}
use Rattle.statics.proofs.NeatSteps.{Fine}
use Rattle.statics.proofs.NeatJudged.{NeatAfter, neat_after}
use Rattle.script_judge.proofs.TreeLets.{Lets, tree_lets}

module _ (nv level : ℕ) (later : ℕ → Unfinished) (Γ : Environment) (N : Neat nv Γ level) (o : Out × ℕ) where
  fine_lets : (d : RowTree Term) → IsTree d → Lets nv d → ok o ≡ judge_at nv d level later Γ → Fine nv Γ o.0.0 o.0.1 level
  unfolding judged_at NeatAfter
  fine_lets none h w e = absurd h
  fine_lets (some t) h w e = neat_after nv t.0 level (finishing t.0 ++ later t.1) Γ o.0 w (fine_is (judge nv t.0 level (finishing t.0 ++ later t.1) Γ) t.1 o e).0 N

  pub fine_tree : (l : ℕ) (rows : List ℕ) (i : ℕ) → IsTree (tree_at nv l rows i) → ok o ≡ judge_at nv (tree_at nv l rows i) level later Γ → Fine nv Γ o.0.0 o.0.1 level
  fine_tree l rows i h e = fine_lets (tree_at nv l rows i) h (tree_lets nv l rows i) e
