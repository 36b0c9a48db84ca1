-- `term_runner::around::assign_place` meets its contract. Assumes nothing.
use Rattle.store.proofs.Again.{again}
use Rattle.term_runner.proofs.AroundLaws.{place_stops, place_drops, place_writes}
use Rattle.term_runner.proofs.around.assign_place.Goals as goal

pub returns-in_err-row : goal.returns-in_err-row
returns-in_err-row c = rw (again c.in_err-row.field-0.0 c.from_residual.result c.from_residual.ensures) (place_stops _ _ _ _ _ _ c.in_err-row.ensures c.requires.0)

pub returns-in_err-drop_value : goal.returns-in_err-drop_value
returns-in_err-drop_value c =
    rw (again c.in_err-drop_value.field-0.0 c.from_residual-in_err-drop_value.result c.from_residual-in_err-drop_value.ensures)
    (place_drops _ _ _ _ _ _ c.in_ok-row.ensures _ c.load.ensures _ _ (rw c.value-old.ensures at c.in_err-drop_value.ensures))

pub returns : goal.returns
returns c = place_writes _ _ _ _ _ _ c.in_ok-row.ensures _ c.load.ensures _ _ (rw c.value-old.ensures at c.in_ok-drop_value.ensures) _ c.write_open.ensures
