-- `store::drops::close_variable` meets its contract. Assumes nothing.
use Rattle.store.proofs.CellLaws.{close_one_law}
use Rattle.store.proofs.drops.close_variable.Goals as goal

pub returns : goal.returns
returns c = close_one_law _ _ _ c.requires.1 _ c.load.ensures _ c.put_row.ensures _ _ (rw c.value-value.ensures at c.drop_value.ensures)
