-- `term_runner::plain::run_move` meets its contract. Assumes nothing.
use Rattle.store.proofs.Again.{again}
use Rattle.term_runner.proofs.LeafLaws.{move_stops, move_held, move_goes}
use Rattle.term_runner.proofs.plain.run_move.Goals as goal

pub returns-in_err-row : goal.returns-in_err-row
returns-in_err-row c = rw (again c.in_err-row.field-0.0 c.from_residual.result c.from_residual.ensures) (move_stops _ _ _ _ _ c.in_err-row.ensures c.requires.0)

pub returns-in_err-value : goal.returns-in_err-value
returns-in_err-value c =
    rw (again c.in_err-value.field-0.0 c.from_residual-in_err-value.result c.from_residual-in_err-value.ensures)
    (move_held _ _ _ _ _ c.in_ok-row.ensures _ c.in_err-value.ensures c.requires.0)

pub returns : goal.returns
returns c = move_goes _ _ _ _ _ c.in_ok-row.ensures _ c.in_ok-value.ensures _ c.put_row.ensures
