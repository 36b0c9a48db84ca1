-- `rules::rules::judge_box` meets its contract. Assumes nothing.
use Rattle.syntax.specs.Result.{◌>>=◌}
use Rattle.statics.specs.Links.{leading_boxes}
use Rattle.statics.specs.Environment.{borrow_end}
use Rattle.statics.specs.Rules.{valued, judge_box}
use Rattle.rules.proofs.rules.judge_box.Goals as goal

pub returns-in_default : goal.returns-in_default
unfolding judge_box valued ◌>>=◌
returns-in_default c = λ nv env i. rw c.in_default.is

pub returns : goal.returns
unfolding judge_box valued borrow_end leading_boxes ◌>>=◌
returns c =
    λ nv env i. rw c.in-Some.is (c.longer_value.ensures env i)
