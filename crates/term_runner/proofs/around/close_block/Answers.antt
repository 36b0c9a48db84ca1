-- `term_runner::around::close_block` meets its contract. Assumes nothing.
use Rattle.term_runner.proofs.AroundLaws.{end_stops, end_goes}
use Rattle.std.proofs.lemmas.Result.{IfOk-at_ok}
use Rattle.term_runner.proofs.around.close_block.Goals as goal

pub returns-in-Ok : goal.returns-in-Ok
returns-in-Ok c = rw c.in_ok-inner.was (end_goes _ _ _ _ _ _ (IfOk-at_ok _ c.in_ok-inner.was c.requires).ready.fine _ _ c.in-Ok.ensures)

pub returns-in-Err : goal.returns-in-Err
returns-in-Err c = rw c.in_ok-inner.was (end_stops _ _ _ _ _ _ (IfOk-at_ok _ c.in_ok-inner.was c.requires).ready.fine _ _ c.in-Err.ensures)
