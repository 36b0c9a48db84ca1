-- `machine::run_with` meets its contract. Assumes nothing.
use Rattle.machine.specs.Outcomes.{told_ran, told_unchecked}
use Rattle.machine.proofs.run_with.Goals as goal

pub returns-in-Ok : goal.returns-in-Ok
unfolding told_ran told_unchecked
returns-in-Ok g c = c.in-Ok.ensures

pub returns-in-Err : goal.returns-in-Err
unfolding told_ran told_unchecked
returns-in-Err g c = c.in-Err.ensures
