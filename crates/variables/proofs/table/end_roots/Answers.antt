-- `variables::table::end_roots` meets its contract. Assumes nothing.
use Rattle.variables.specs.Table.{end_roots}
use Rattle.variables.proofs.table.end_roots.Goals as goal

pub returns-in-None : goal.returns-in-None
unfolding end_roots
returns-in-None c = rw c.in-None.is

pub returns-in-Shared : goal.returns-in-Shared
unfolding end_roots
returns-in-Shared c = rw c.in-Shared.is

pub returns-in-Exclusive : goal.returns-in-Exclusive
unfolding end_roots
returns-in-Exclusive c = rw c.in-Exclusive.is
