-- `program::line::Text::push_answer` meets its contract. Assumes nothing.
use Rattle.room.specs.Calling.{told_call}
use Rattle.program.proofs.line.Text.push_answer.Goals as goal

pub returns-in-Ok-clause-put : goal.returns-in-Ok-clause-put
unfolding told_call
returns-in-Ok-clause-put c = rw c.in-Ok.is c.push_accepted.ensures.put

pub returns-in-Err-clause-put : goal.returns-in-Err-clause-put
unfolding told_call
returns-in-Err-clause-put c = rw c.in-Err.is (rw c.number.ensures at c.push_refused.ensures.put)
