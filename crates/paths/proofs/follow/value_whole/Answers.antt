-- `paths::follow::value_whole` meets its contract. Assumes nothing.
use native.Mathlib.Omega.{arith}
use mathlib.Core.Path.{◌∙◌}
use Rattle.variables.proofs.EntryLaws.{not_live}
use Rattle.paths.proofs.WholeLaws.{whole_found, moved_loaded, whole_loaded, linked_loaded}
use Rattle.paths.proofs.follow.value_whole.Goals as goal

pub returns-in_default : goal.returns-in_default
returns-in_default c =
    absurd (not_live _ _ _ c.load.ensures c.in_default.not-Live _ c.requires.1)

pub returns-then-state-leading_boxes : goal.returns-then-state-leading_boxes
returns-then-state-leading_boxes c =
    moved_loaded _ _ c.requires.0 _ c.requires.1 _ c.load.ensures _ c.in-Live.is _ c.leading_boxes.ensures.0 c.if-state-leading_boxes.true

pub returns-in-None : goal.returns-in-None
returns-in-None c =
    whole_loaded _ _ c.requires.0 _ c.requires.1 _ c.load.ensures _ c.in-Live.is _ c.leading_boxes.ensures.0 c.if-state-leading_boxes.false c.in-None.is

pub search_beyond-requires : goal.search_beyond-requires
search_beyond-requires c =
    (c.requires.0, c.requires.1, omega arith, linked_loaded _ _ c.requires.0 _ c.requires.1 _ c.load.ensures _ c.in-Live.is _ c.leading_boxes.ensures.0 c.if-state-leading_boxes.false c.in_default-borrow_end.not-None)

pub returns : goal.returns
returns c = c.is_ok.ensures.value ∙ whole_found _ _ c.requires.0 _ c.requires.1 _ c.search_beyond.ensures
