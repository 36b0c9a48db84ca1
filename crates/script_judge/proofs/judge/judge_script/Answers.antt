-- `script_judge::judge::judge_script` meets its contract. Assumes nothing.
use native.Mathlib.Omega.{arith}
use mathlib.Core.Path.{ap, ◌∙◌}
use Rattle.syntax.specs.RowTrees.{IsTree, tree_at}
use Rattle.syntax.proofs.RowTreeLaws.{rest_one}
use Rattle.variables.specs.Masks.{has}
use Rattle.variables.proofs.QuestionLaws.{left_with}
use Rattle.rules.specs.RuleAnswers.{as_requirement}
use Rattle.statics.proofs.NeatJudged.{neat_start}
use Rattle.uses.specs.RowUses.{UsesFor, later_at}
use Rattle.term_judge.specs.JudgeRows.{told_as}
use Rattle.script_judge.proofs.ScriptLaws.{LastTree, script_refused, script_fine, ends_tree, script_alone}
use Rattle.script_judge.proofs.judge.judge_script.Goals as goal
use Rattle.script_judge.proofs.judge.judge_script.Goals.{After-find_uses, After-judge_terms}

-- The last uses are found before the script is judged.
tree_stands : (f : After-find_uses) → IsTree (tree_at f.args.variables f.args.levels f.args.rows.now 0)
tree_stands f = ends_tree (tree_at _ _ _ _) _ f.requires.0

-- Where it is judged: nothing is named after it, nor around it.
module _ (j : After-judge_terms) where
  found : UsesFor j.args.variables j.args.rows.now j.find_uses.new.uses
  found = rw j.requires.6 at j.find_uses.ensures

  alone : LastTree j.args.variables (later_at j.args.variables j.find_uses.new.uses (has j.no_roots.result)) (tree_at j.args.variables j.args.levels j.args.rows.now 0)
  alone = script_alone _ _ _ found _ j.no_roots.ensures (tree_at _ _ _ _) _ j.requires.0 j.requires.1

pub find_uses-requires : goal.find_uses-requires
find_uses-requires c = let p = c.requires in (rw p.6 p.1, p.2, p.7)

pub judge_terms-requires : goal.judge_terms-requires
judge_terms-requires c =
    let p = c.requires in
    (rest_one _ _ (tree_stands (goal.at.judge_terms-requires c).After-find_uses), record { table = p.4; neat = rw p.5 (neat_start _); deep = omega (arith, p.3); last_uses = rw p.6 at c.find_uses.ensures })

pub returns-in_err-judged : goal.returns-in_err-judged
returns-in_err-judged c =
    ap as_requirement (left_with _ _ c.from_residual.ensures.1)
    ∙ script_refused _ (tree_at _ _ _) _ (tree_stands (goal.at.returns-in_err-judged c).After-find_uses) _ (alone (goal.at.returns-in_err-judged c).After-judge_terms) _ c.requires.5 _ (rw c.in_err-judged.was at c.judge_terms.ensures.0)

pub returns : goal.returns
returns c =
    c.judge_answer.ensures c.args.variables c.judge_terms.new.env
    ∙ script_fine c.args.variables (tree_at _ _ _) _ (tree_stands (goal.at.returns c).After-find_uses) _ (alone (goal.at.returns c).After-judge_terms) _ c.requires.5 (told_as c.judge_terms.new.env c.in_ok-judged.judged) (rw c.in_ok-judged.was at c.judge_terms.ensures.0)
