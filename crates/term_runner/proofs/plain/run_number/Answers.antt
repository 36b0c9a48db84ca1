-- `term_runner::plain::run_number` meets its contract. Assumes nothing.
use Rattle.store.proofs.Again.{again}
use Rattle.term_runner.proofs.LeafLaws.{number_stops, number_goes, number_wrong}
use Rattle.term_runner.proofs.plain.run_number.Goals as goal

pub returns-in_err-bits : goal.returns-in_err-bits
returns-in_err-bits c = rw (again c.in_err-bits.field-0.0 c.from_residual.result c.from_residual.ensures) (number_stops _ _ _ _ _ c.in_err-bits.ensures)

pub returns-in-Number : goal.returns-in-Number
returns-in-Number c = number_goes _ _ _ _ _ _ c.in-Number.is c.in_ok-bits.ensures

pub returns-in_default : goal.returns-in_default
returns-in_default c = number_wrong _ _ _ _ _ c.in_default.not-Number c.in_ok-bits.ensures
