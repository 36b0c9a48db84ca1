-- Terms, choices and blocks, which call each other. Assumes nothing.
use Rattle.syntax.specs.Kinds.{wraps_of}
use Rattle.syntax.specs.Limits.{row_numbers}
use Rattle.syntax.specs.Parts.{IsKind}
use Rattle.syntax.specs.KindNumbers.{number_in}
use Rattle.syntax.proofs.RowTreeLaws.{has_level, has_room}
use Rattle.store.proofs.Again.{again}
use Rattle.block_runner.proofs.BlockRunLaws.{going_starts, going_ends, going_drops, turn_ready, going_stops, going_goes, block_ready, block_ending, block_returns}
use Rattle.block_runner.proofs.WrapLaws.{tree_known, inmost_ready, inmost_returns, inwards_starts, inwards_here, inwards_room, inwards_level, inwards_goes, inwards_stops, outwards_starts, outwards_ends, outwards_after, outwards_stops, outwards_goes}
use Rattle.block_runner.proofs.ChoiceLaws.{choice_place, choice_stops, choice_passable, chosen_ready, choice_past, choice_returns}
use native.Mathlib.Omega.{arith}
use mathlib.Core.Path.{sym, ap, subst, ◌∙◌}
use Rattle.block_runner.proofs.terms.+terms.Goals as goal

-- ---- a block's terms

pub run_block-index_at-terms-requires : goal.run_block-index_at-terms-requires
unfolding row_numbers
run_block-index_at-terms-requires t c = (omega (arith, c.requires.room, c.requires.ready.long), omega arith)

pub run_block-loop-init : goal.run_block-loop-init
run_block-loop-init t c = going_starts _ _ _ _ _ _ _ _ _ _ (omega arith) c.requires

pub run_block-returns-in-Err : goal.run_block-returns-in-Err
run_block-returns-in-Err t c = going_drops _ _ _ _ _ _ _ _ _ _ _ _ _ c.loop.invariant (omega (arith, c.index_at-terms.ensures)) _ _ c.in-Err.ensures

pub run_block-run_term-requires : goal.run_block-run_term-requires
run_block-run_term-requires t c =
    (omega (arith, c.decreases), turn_ready _ _ _ _ _ _ _ _ _ _ _ _ _ c.loop.invariant (omega (arith, c.index_at-terms.ensures)) _ _ c.in_default.ensures)

pub run_block-returns-in_err-at : goal.run_block-returns-in_err-at
run_block-returns-in_err-at t c =
    rw (again c.in_err-at.field-0.0 c.from_residual.result c.from_residual.ensures)
    (going_stops _ _ _ _ _ _ _ _ _ _ _ _ _ c.loop.invariant (omega (arith, c.index_at-terms.ensures)) _ _ c.in_default.ensures _ _ _ c.in_err-at.ensures)

pub run_block-loop-preserved : goal.run_block-loop-preserved
run_block-loop-preserved t c =
    going_goes _ _ _ _ _ _ _ _ _ _ _ _ _ c.loop.invariant (omega (arith, c.index_at-terms.ensures)) _ _ c.in_default.ensures _ _ _ c.in_ok-at.ensures c.run_term.auto.opened _ (omega arith)

pub run_block-returns : goal.run_block-returns
run_block-returns t c = going_ends _ _ _ _ _ _ _ _ _ _ _ _ _ c.loop.invariant (omega (arith, c.index_at-terms.ensures))

-- ---- the innermost term

pub run_inmost-field_at-requires : goal.run_inmost-field_at-requires
run_inmost-field_at-requires t c = (has_room _ _ _ _ c.requires.0.is, omega arith)

pub run_inmost-unreachable-requires : goal.run_inmost-unreachable-requires
run_inmost-unreachable-requires t c = tree_known _ _ _ _ c.requires.0.is (λ h. c.in_default.ensures (subst IsKind (sym c.field_at.ensures) h))

pub run_inmost-overflow_sub-levels : goal.run_inmost-overflow_sub-levels
run_inmost-overflow_sub-levels t c = omega (arith, has_level _ _ _ _ c.requires.0.is)

pub run_inmost-run_block-inner-requires : goal.run_inmost-run_block-inner-requires
run_inmost-run_block-inner-requires t c =
    (omega (arith, c.decreases, has_level _ _ _ _ c.requires.0.is), block_ready _ _ _ _ _ _ _ _ _ c.requires.0 (sym (c.in-Ok.ensures ∙ c.field_at.ensures) ∙ ap number_in c.in-Block.is))

pub run_inmost-close_block-requires : goal.run_inmost-close_block-requires
run_inmost-close_block-requires t c =
    block_ending _ _ _ _ _ _ _ _ _ c.requires.0 (sym (c.in-Ok.ensures ∙ c.field_at.ensures) ∙ ap number_in c.in-Block.is) _ _ _ c.run_block-inner.ensures c.run_block-inner.auto.opened

pub run_inmost-returns-in-Block : goal.run_inmost-returns-in-Block
run_inmost-returns-in-Block t c =
    block_returns _ _ _ _ _ _ _ _ _ c.requires.0 (sym (c.in-Ok.ensures ∙ c.field_at.ensures) ∙ ap number_in c.in-Block.is) _ _ _ c.run_block-inner.ensures _ _ c.close_block.ensures

pub run_inmost-run_plain-requires : goal.run_inmost-run_plain-requires
unfolding row_numbers
run_inmost-run_plain-requires t c =
    (inmost_ready _ _ _ _ _ _ _ _ _ c.requires.0 c.requires.1 _ (c.in-Ok.ensures ∙ c.field_at.ensures) c.in_default-kind.not-Block c.in_default-kind.not-Choice, omega (arith, has_room _ _ _ _ c.requires.0.is, c.requires.0.ready.long))

pub run_inmost-returns-in_default-kind : goal.run_inmost-returns-in_default-kind
run_inmost-returns-in_default-kind t c =
    inmost_returns _ _ _ _ _ _ _ _ _ c.requires.0 c.requires.1 _ (c.in-Ok.ensures ∙ c.field_at.ensures) c.in_default-kind.not-Block c.in_default-kind.not-Choice _ _ c.run_plain.ensures

-- ---- a term, inwards and outwards

pub run_term-loop-around-init : goal.run_term-loop-around-init
run_term-loop-around-init t c = inwards_starts _ _ _ _ _ _ _ _ _ c.requires

pub run_term-overflow_add-i : goal.run_term-overflow_add-i
run_term-overflow_add-i t c = omega (arith, inwards_room _ _ _ _ _ _ _ _ _ _ c.loop-around.invariant)

pub run_term-field_at-requires : goal.run_term-field_at-requires
run_term-field_at-requires t c = (has_room _ _ _ _ (inwards_here _ _ _ _ _ _ _ _ _ _ c.loop-around.invariant).is, omega arith)

pub run_term-overflow_add-around : goal.run_term-overflow_add-around
run_term-overflow_add-around t c = omega (arith, inwards_room _ _ _ _ _ _ _ _ _ _ c.loop-around.invariant)

pub run_term-loop-around-smaller : goal.run_term-loop-around-smaller
run_term-loop-around-smaller t c = omega (arith, inwards_level _ _ _ _ _ _ _ _ _ _ c.loop-around.invariant)

pub run_term-loop-around-preserved : goal.run_term-loop-around-preserved
run_term-loop-around-preserved t c = inwards_goes _ _ _ _ _ _ _ _ _ _ c.loop-around.invariant (ap wraps_of (sym c.field_at.ensures) ∙ sym c.wraps.ensures ∙ c.loop-around-test.true)

pub run_term-overflow_add-inmost : goal.run_term-overflow_add-inmost
run_term-overflow_add-inmost t c = omega (arith, inwards_room _ _ _ _ _ _ _ _ _ _ c.loop-around.invariant)

pub run_term-overflow_sub-deeper : goal.run_term-overflow_sub-deeper
run_term-overflow_sub-deeper t c = omega (arith, inwards_level _ _ _ _ _ _ _ _ _ _ c.loop-around.invariant)

pub run_term-run_inmost-requires : goal.run_term-run_inmost-requires
run_term-run_inmost-requires t c =
    (omega (arith, c.decreases), (inwards_here _ _ _ _ _ _ _ _ _ _ c.loop-around.invariant, ap wraps_of (sym c.field_at.ensures) ∙ sym c.wraps.ensures ∙ c.loop-around-test.false))

pub run_term-returns-in_err-ran : goal.run_term-returns-in_err-ran
run_term-returns-in_err-ran t c =
    rw (again c.in_err-ran.field-0.0 c.from_residual.result c.from_residual.ensures)
    (inwards_stops _ _ _ _ _ _ _ _ _ _ c.loop-around.invariant _ _ _ _ (omega arith) c.in_err-ran.ensures)

pub run_term-loop-k-init : goal.run_term-loop-k-init
run_term-loop-k-init t c = outwards_starts _ _ _ _ _ _ _ _ _ _ _

pub run_term-run_after-requires : goal.run_term-run_after-requires
run_term-run_after-requires t c = outwards_after _ _ _ _ _ _ _ _ _ _ _ _ _ _ _ c.loop-k.invariant _ _ c.run_inmost.auto.opened c.loop-around.invariant c.in_ok-ran.ensures c.loop-k-test.true

pub run_term-returns-in_err-ran-2 : goal.run_term-returns-in_err-ran-2
run_term-returns-in_err-ran-2 t c =
    rw (again c.in_err-ran-2.field-0.0 c.from_residual-in_err-ran-2.result c.from_residual-in_err-ran-2.ensures)
    (outwards_stops _ _ _ _ _ _ _ _ _ _ _ _ _ _ _ c.loop-k.invariant _ _ c.run_inmost.auto.opened c.loop-around.invariant c.in_ok-ran.ensures c.loop-k-test.true _ _ _ c.in_err-ran-2.ensures)

pub run_term-loop-k-preserved : goal.run_term-loop-k-preserved
run_term-loop-k-preserved t c = outwards_goes _ _ _ _ _ _ _ _ _ _ _ _ _ _ _ c.loop-k.invariant c.loop-k-test.true _ _ _ c.in_ok-ran-2.ensures c.run_after.auto.opened

pub run_term-returns : goal.run_term-returns
run_term-returns t c = outwards_ends _ _ _ _ _ _ _ _ _ _ _ _ _ _ _ c.loop-k.invariant _ _ c.run_inmost.auto.opened c.loop-around.invariant c.in_ok-ran.ensures (omega arith)

-- ---- a choice

pub run_choice-place_at-requires : goal.run_choice-place_at-requires
run_choice-place_at-requires t c = (has_room _ _ _ _ c.requires.0.is, omega arith)

pub run_choice-run_number-requires : goal.run_choice-run_number-requires
run_choice-run_number-requires t c = choice_place _ _ _ _ _ _ _ _ _ c.requires.0 c.requires.1 _ c.place_at.ensures.0

pub run_choice-returns-in-Err : goal.run_choice-returns-in-Err
run_choice-returns-in-Err t c = choice_stops _ _ _ _ _ _ _ _ _ c.requires.0 c.requires.1 _ _ c.place_at.ensures _ c.in-Err.ensures

pub run_choice-chosen-block-requires : goal.run_choice-chosen-block-requires
run_choice-chosen-block-requires t c = choice_passable _ _ _ _ _ _ _ _ _ c.requires.0 c.requires.1

pub run_choice-overflow_sub-levels : goal.run_choice-overflow_sub-levels
run_choice-overflow_sub-levels t c = omega (arith, has_level _ _ _ _ c.requires.0.is)

pub run_choice-overflow_sub-levels-2 : goal.run_choice-overflow_sub-levels-2
run_choice-overflow_sub-levels-2 t c =
    let ready = chosen_ready _ _ _ _ _ _ _ _ _ c.requires.0 c.requires.1 _ _ c.chosen-block.ensures in
    omega (arith, has_level _ _ _ _ ready.0.is)

pub run_choice-run_block-inner-requires : goal.run_choice-run_block-inner-requires
run_choice-run_block-inner-requires t c =
    let ready = chosen_ready _ _ _ _ _ _ _ _ _ c.requires.0 c.requires.1 _ _ c.chosen-block.ensures in
    (omega (arith, c.decreases, has_level _ _ _ _ c.requires.0.is), block_ready _ _ _ _ _ _ _ _ _ ready.0 ready.1)

pub run_choice-close_block-ran-requires : goal.run_choice-close_block-ran-requires
run_choice-close_block-ran-requires t c =
    let ready = chosen_ready _ _ _ _ _ _ _ _ _ c.requires.0 c.requires.1 _ _ c.chosen-block.ensures in
    block_ending _ _ _ _ _ _ _ _ _ ready.0 ready.1 _ _ _ c.run_block-inner.ensures c.run_block-inner.auto.opened

pub run_choice-past_choice-requires : goal.run_choice-past_choice-requires
run_choice-past_choice-requires t c =
    let ready = chosen_ready _ _ _ _ _ _ _ _ _ c.requires.0 c.requires.1 _ _ c.chosen-block.ensures in
    choice_past _ _ _ _ _ _ _ _ _ c.requires.0 c.requires.1 _ _ _ _ c.chosen-block.ensures _ _ c.place_at.ensures c.in-Ok.ensures _ (block_returns _ _ _ _ _ _ _ _ _ ready.0 ready.1 _ _ _ c.run_block-inner.ensures _ _ c.close_block-ran.ensures)

pub run_choice-returns : goal.run_choice-returns
run_choice-returns t c =
    let ready = chosen_ready _ _ _ _ _ _ _ _ _ c.requires.0 c.requires.1 _ _ c.chosen-block.ensures in
    choice_returns _ _ _ _ _ _ _ _ _ c.requires.0 c.requires.1 _ _ _ _ c.chosen-block.ensures _ _ c.place_at.ensures c.in-Ok.ensures _ (block_returns _ _ _ _ _ _ _ _ _ ready.0 ready.1 _ _ _ c.run_block-inner.ensures _ _ c.close_block-ran.ensures) _ c.past_choice.ensures
