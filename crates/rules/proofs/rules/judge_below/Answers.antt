-- `rules::rules::judge_below` meets its contract. Assumes nothing.
use mathlib.Core.Path.{ap, ◌∙◌}
use Rattle.syntax.specs.Result.{◌>>=◌}
use Rattle.statics.specs.Rules.{judge_below}
use Rattle.variables.specs.Verdicts.{answered}
use Rattle.variables.proofs.QuestionLaws.{left_with}
use Rattle.rules.proofs.PlaceLaws.{number_at, no_number}
use Rattle.rules.proofs.rules.judge_below.Goals as goal

pub returns-in_err-judge_number : goal.returns-in_err-judge_number
unfolding judge_below ◌>>=◌
returns-in_err-judge_number c =
    λ i ns first second. ap (answered _ i) (left_with _ _ c.from_residual.ensures.1) ∙ rw (no_number _ i (c.judge_number.ensures i ns first) c.in_err-judge_number.was)

pub returns-in_err-judge_number-2 : goal.returns-in_err-judge_number-2
unfolding judge_below ◌>>=◌
returns-in_err-judge_number-2 c =
    λ i ns first second. ap (answered _ i) (left_with _ _ c.from_residual-in_err-judge_number-2.ensures.1)
    ∙ rw (number_at _ i (c.judge_number.ensures i ns first) c.in_ok-judge_number.was, no_number _ i (c.judge_number-2.ensures i ns second) c.in_err-judge_number-2.was)

pub returns : goal.returns
unfolding judge_below ◌>>=◌
returns c =
    λ i ns first second.
    rw (number_at _ i (c.judge_number.ensures i ns first) c.in_ok-judge_number.was, number_at _ i (c.judge_number-2.ensures i ns second) c.in_ok-judge_number-2.was)
    (c.number_value.ensures _ i)
