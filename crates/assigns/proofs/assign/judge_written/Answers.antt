-- `assigns::assign::judge_written` meets its contract. Assumes nothing.
use Rattle.syntax.specs.Result.{need, ◌>>=◌}
use Rattle.assigns.proofs.assign.judge_written.Goals as goal

pub returns-then-barred : goal.returns-then-barred
unfolding need ◌>>=◌
returns-then-barred c = λ env i. rw c.if-barred.true

pub returns : goal.returns
unfolding need ◌>>=◌
returns c = λ env i. rw c.if-barred.false
