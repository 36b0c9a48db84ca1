-- `rules::rules::judge_answer` meets its contract. Assumes nothing.
use Rattle.syntax.specs.Result.{need}
use Rattle.rules.proofs.rules.judge_answer.Goals as goal

pub returns-in_default : goal.returns-in_default
unfolding need
returns-in_default c = λ nv env. rw c.in_default.is

pub returns-then-not-is_number : goal.returns-then-not-is_number
unfolding need
returns-then-not-is_number c =
    λ nv env. rw (c.in-Some.is, ← c.is_number.ensures, c.if-not-is_number.true)

pub returns : goal.returns
unfolding need
returns c =
    λ nv env. rw (c.in-Some.is, ← c.is_number.ensures, c.if-not-is_number.false)
