-- `variables::table::changed_state` meets its contract. Assumes nothing.
use Rattle.variables.specs.Table.{changed_state}
use Rattle.variables.proofs.table.changed_state.Goals as goal

pub returns : goal.returns
unfolding changed_state
returns c = rw c.borrow_end_of.ensures
