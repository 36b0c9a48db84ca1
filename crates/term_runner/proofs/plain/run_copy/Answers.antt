-- `term_runner::plain::run_copy` meets its contract. Assumes nothing.
use Rattle.store.proofs.Again.{again}
use Rattle.term_runner.proofs.LeafLaws.{copy_stops, copy_goes}
use Rattle.term_runner.proofs.plain.run_copy.Goals as goal

pub returns-in_err-row : goal.returns-in_err-row
returns-in_err-row c = rw (again c.in_err-row.field-0.0 c.from_residual.result c.from_residual.ensures) (copy_stops _ _ _ _ _ c.in_err-row.ensures)

pub returns : goal.returns
returns c = copy_goes _ _ _ _ _ c.in_ok-row.ensures _ c.read_row.ensures
