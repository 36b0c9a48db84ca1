-- `bars::bars::held_by` meets its contract. Assumes nothing.
use mathlib.Core.Path.{◌∙◌}
use Rattle.bars.proofs.HeldLaws.{dead_held, moved_held, none_held, shared_held, shared_passed, exclusive_held}
use Rattle.bars.proofs.bars.held_by.Goals as goal

pub returns-in_default : goal.returns-in_default
returns-in_default c = λ root. c.no_roots.ensures root ∙ dead_held _ _ root _ _ c.load.ensures c.in_default.not-Live

pub returns-then-state-leading_boxes : goal.returns-then-state-leading_boxes
returns-then-state-leading_boxes c =
    λ root. c.no_roots-then-state-leading_boxes.ensures root ∙ moved_held _ _ root _ _ c.load.ensures _ c.in-Live.is _ c.leading_boxes.ensures.0 c.if-state-leading_boxes.true

pub returns-in-None : goal.returns-in-None
returns-in-None c =
    λ root. c.no_roots-in-None.ensures root ∙ none_held _ _ root _ _ c.load.ensures _ c.in-Live.is _ c.leading_boxes.ensures.0 c.if-state-leading_boxes.false c.in-None.is

pub returns-in-Any : goal.returns-in-Any
returns-in-Any c =
    λ root. shared_held _ _ root _ _ c.load.ensures _ c.in-Live.is _ c.leading_boxes.ensures.0 c.if-state-leading_boxes.false _ c.in-Shared.is c.in-Any.is

pub returns-in-Exclusive-which : goal.returns-in-Exclusive-which
returns-in-Exclusive-which c =
    λ root. c.no_roots-in-Exclusive-which.ensures root ∙ shared_passed _ _ root _ _ c.load.ensures _ c.in-Live.is _ c.leading_boxes.ensures.0 c.if-state-leading_boxes.false _ c.in-Shared.is c.in-Exclusive-which.is

pub returns-in-Exclusive : goal.returns-in-Exclusive
returns-in-Exclusive c =
    λ root. exclusive_held _ _ root _ _ c.load.ensures _ c.in-Live.is _ c.leading_boxes.ensures.0 c.if-state-leading_boxes.false _ c.in-Exclusive.is
