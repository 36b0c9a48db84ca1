-- `term_runner::plain::run_borrow` meets its contract. Assumes nothing.
use Rattle.store.proofs.Again.{again}
use Rattle.store.proofs.WordLaws.{row_small}
use Rattle.term_runner.proofs.LeafLaws.{borrow_stops, borrow_goes}
use native.Mathlib.Omega.{arith}
use Rattle.term_runner.proofs.plain.run_borrow.Goals as goal

pub returns-in_err-row : goal.returns-in_err-row
returns-in_err-row c = rw (again c.in_err-row.field-0.0 c.from_residual.result c.from_residual.ensures) (borrow_stops _ _ _ _ _ c.in_err-row.ensures)

pub overflow_cast-result : goal.overflow_cast-result
overflow_cast-result c = omega (arith, row_small _ _ _ c.requires.0 c.in_ok-row.ensures.inside)

pub returns : goal.returns
returns c = borrow_goes _ _ _ _ _ c.in_ok-row.ensures
