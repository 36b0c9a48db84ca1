-- `term_runner::around::run_assign` meets its contract. Assumes nothing.
use Rattle.term_runner.proofs.AroundLaws.{assign_stops, assign_goes}
use Rattle.std.proofs.lemmas.Result.{IfOk-at_ok}
use Rattle.term_runner.proofs.around.run_assign.Goals as goal

pub returns-in-Ok : goal.returns-in-Ok
returns-in-Ok c = rw c.in_ok-inner.was (assign_goes _ _ _ _ _ _ (IfOk-at_ok _ c.in_ok-inner.was c.requires).0.fine.ordered _ _ c.in-Ok.ensures)

pub returns-in-Err : goal.returns-in-Err
returns-in-Err c = rw c.in_ok-inner.was (assign_stops _ _ _ _ _ _ (IfOk-at_ok _ c.in_ok-inner.was c.requires).0.fine.ordered _ _ c.in-Err.ensures)
