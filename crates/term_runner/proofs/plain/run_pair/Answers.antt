-- `term_runner::plain::run_pair` meets its contract. Assumes nothing.
use Rattle.store.proofs.Again.{again}
use Rattle.term_runner.proofs.LeafLaws.{pair_stops, pair_second, pair_goes}
use Rattle.term_runner.proofs.plain.run_pair.Goals as goal

pub returns-in_err-first : goal.returns-in_err-first
returns-in_err-first c = rw (again c.in_err-first.field-0.0 c.from_residual.result c.from_residual.ensures) (pair_stops _ _ _ _ _ _ _ _ c.in_err-first.ensures)

pub returns-in_err-second : goal.returns-in_err-second
returns-in_err-second c =
    rw (again c.in_err-second.field-0.0 c.from_residual-in_err-second.result c.from_residual-in_err-second.ensures)
    (pair_second _ _ _ _ _ _ _ _ c.in_ok-first.ensures _ c.in_err-second.ensures)

pub returns : goal.returns
returns c = pair_goes _ _ _ _ _ _ _ _ c.in_ok-first.ensures _ c.in_ok-second.ensures _ c.paired.ensures
