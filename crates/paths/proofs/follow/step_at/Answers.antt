-- `paths::follow::step_at` meets its contract. Assumes nothing.
use native.Mathlib.Omega.{arith}
use mathlib.Core.Logic.{inl, inr}
use Rattle.statics.proofs.BorrowLinks.{is_linked}
use Rattle.paths.proofs.StepLaws.{stops_deep, passes_here, stops_here, stops_through, passes_through, step_moved, step_here, step_through}
use Rattle.paths.proofs.follow.step_at.Goals as goal
use Rattle.paths.proofs.follow.step_at.Goals.{then-moved_from-boxes+else-deep, else-moved_from-boxes}

pub returns-then-deep : goal.returns-then-deep
returns-then-deep c =
    let boxes = c.leading_boxes-boxes.ensures.0 in
    step_moved _ _ _ (stops_deep _ _ _ c.if-deep.true (omega (arith, boxes, c.if-moved_from-boxes.true)))

pub returns-then-follows-moved_from : goal.returns-then-follows-moved_from
returns-then-follows-moved_from c =
    let boxes = c.leading_boxes-boxes.ensures.0 in
    step_here _ _ _ (passes_here _ _ _ (elim c.if-moved_from-boxes.branch [ then-moved_from-boxes+else-deep w ↦ inl w.if-deep.false | else-moved_from-boxes w ↦ inr (omega (arith, boxes, w.if-moved_from-boxes.false)) ]) (omega (arith, boxes, c.if-follows-boxes.true)) (omega (arith, c.if-follows-moved_from.true))) (omega (arith, boxes, c.if-follows-boxes.true))

pub returns-then-follows-boxes : goal.returns-then-follows-boxes
returns-then-follows-boxes c =
    let boxes = c.leading_boxes-boxes.ensures.0 in
    step_moved _ _ _ (stops_here _ _ _ (omega (arith, boxes, c.if-follows-boxes.true)) (omega (arith, c.if-follows-moved_from.false)))

pub returns-then-moved_from-boxes-2 : goal.returns-then-moved_from-boxes-2
returns-then-moved_from-boxes-2 c =
    let boxes = c.leading_boxes-boxes.ensures.0 in
    step_moved _ _ _ (stops_through _ _ _ (omega (arith, boxes, c.if-follows-boxes.false)) (omega (arith, boxes, c.if-moved_from-boxes-2.true)))

pub returns : goal.returns
returns c =
    let boxes = c.leading_boxes-boxes.ensures.0 in
    step_through _ _ _ (passes_through _ _ _ (omega (arith, boxes, c.if-follows-boxes.false)) (omega (arith, boxes, c.if-moved_from-boxes-2.false)) (is_linked _ _ (omega (arith, boxes, c.if-follows-boxes.false, c.requires.1)))) (omega (arith, boxes, c.if-follows-boxes.false))
