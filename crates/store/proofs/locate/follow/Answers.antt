-- `store::locate::follow` meets its contract. Assumes nothing.
use mathlib.Core.Path.{sym, ◌∙◌}
use Rattle.store.proofs.LocateLaws.{follow_none, follow_owner, follow_reference, follow_number}
use Rattle.store.proofs.locate.follow.Goals as goal

pub returns-in-Owner : goal.returns-in-Owner
returns-in-Owner c = follow_owner _ _ _ _ c.load.ensures _ (sym c.value.ensures ∙ c.in-Owner.is)

pub returns-in-Reference : goal.returns-in-Reference
returns-in-Reference c = follow_reference _ _ _ _ c.load.ensures _ (sym c.value.ensures ∙ c.in-Reference.is)

pub returns-in-Empty : goal.returns-in-Empty
returns-in-Empty c = follow_none _ _ _ _ c.load.ensures (sym c.value.ensures ∙ c.in-Empty.is)

pub returns-in-Number : goal.returns-in-Number
returns-in-Number c = follow_number _ _ _ _ c.load.ensures _ (sym c.value.ensures ∙ c.in-Number.is)
