-- `term_runner::around::write_open` meets its contract. Assumes nothing.
use Rattle.term_runner.proofs.AroundLaws.{write_lost, write_goes}
use Rattle.term_runner.proofs.around.write_open.Goals as goal

pub returns-in-Open : goal.returns-in-Open
returns-in-Open c = write_goes _ _ _ _ _ c.load.ensures _ c.in-Open.is _ c.put_row.ensures

pub returns-in_default : goal.returns-in_default
returns-in_default c = write_lost _ _ _ _ _ c.load.ensures c.in_default.not-Open c.requires.0
