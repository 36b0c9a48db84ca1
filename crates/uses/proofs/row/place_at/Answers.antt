-- `uses::row::place_at` meets its contract. Assumes nothing.
use Rattle.uses.proofs.row.place_at.Goals as goal

pub returns : goal.returns
returns c = rw (c.field_at.ensures, c.field_at-2.ensures)
