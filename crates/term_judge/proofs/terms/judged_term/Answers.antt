-- `term_judge::terms::judged_term` meets its contract. Assumes nothing.
use Rattle.syntax.specs.Result.{◌>>=◌}
use Rattle.term_judge.proofs.terms.judged_term.Goals as goal

pub returns-in-Ok : goal.returns-in-Ok
unfolding ◌>>=◌
returns-in-Ok c env = rw c.in-Ok.is

pub returns-in-Err : goal.returns-in-Err
unfolding ◌>>=◌
returns-in-Err c env = rw c.in-Err.is
