-- `store::locate::read_row` meets its contract. Assumes nothing.
use mathlib.Core.Path.{sym, ◌∙◌}
use Rattle.store.proofs.LocateLaws.{read_none, read_filled}
use Rattle.store.proofs.locate.read_row.Goals as goal

pub returns-in-Empty : goal.returns-in-Empty
returns-in-Empty c = read_none _ _ _ _ c.load.ensures (sym c.value.ensures ∙ c.in-Empty.is)

pub returns-in_default : goal.returns-in_default
returns-in_default c = read_filled _ _ _ _ c.load.ensures _ (sym c.value.ensures) c.in_default.not-Empty
