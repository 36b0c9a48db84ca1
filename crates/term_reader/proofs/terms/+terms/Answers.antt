-- The readers of a term, of a block's terms, of a block that is due and of a choice's two, which call one another, meet their contracts.
-- The measure is four times the levels left, with 1, 2 and 3 more for the latter three; the loops' invariants are `Inner` and `Going`.
-- Assumes nothing.
use Prim.Native.Nat.{◌+◌, ◌-◌, ◌<◌}
use native.Mathlib.Omega.{arith}
use mathlib.Core.Path.{◌≡◌, refl, sym, ap, ◌∙◌}
use Rattle.std.proofs.lemmas.Result.{err_from_is_err_and}
use Rattle.syntax.specs.Limits.{row_numbers}
use Rattle.syntax.specs.ByteParts.{got_of, RowsAfter}
use Rattle.syntax.proofs.Ranges.{ranged}
use Rattle.syntax.proofs.BlockLaws.{one_reading}
use Rattle.term_reader.proofs.LoopLaws.{going_start, going_ready, going_refused, going_on, going_last, going_end}
use Rattle.term_reader.proofs.BranchLoop.{first_refused, second_due}
use Rattle.term_reader.proofs.DueBlockBytes.{byte_refused, byte_same}
use Rattle.term_reader.proofs.TermLoop.{opening_stops, clear, operand_stops, used_within, rest_near, leaf_stops, block_asks, block_stops, choice_asks, choice_stops, inner_on}
use Rattle.syntax.specs.KindNumbers.{number_in}
use Rattle.term_reader.proofs.KindGroups.{stands_around, stands_alone}
use Rattle.term_reader.proofs.terms.+terms.Goals as goal

pub read_block-loop-init : goal.read_block-loop-init
read_block-loop-init t c = let e : c.args.count - 0 ≡ c.args.count = omega arith in (rw e (going_start _ _ _ _ _ _ _ _ _ _ c.requires.0 c.requires.1), refl)

pub read_block-returns-in_err-read_term : goal.read_block-returns-in_err-read_term
read_block-returns-in_err-read_term t c =
    let p = err_from_is_err_and c.from_residual.result c.from_residual.ensures.1 in
    let more : 0 < c.args.count - c.loop.counter = omega (arith, c.loop-test.true) in
    rw (p.1, p.2) (going_refused _ _ _ _ _ _ _ _ _ _ _ _ _ _ _ c.loop.invariant.0 more _ _ c.in_err-read_term.ensures _ _ refl)

pub read_block-loop-preserved : goal.read_block-loop-preserved
read_block-loop-preserved t c =
    let kept = c.read_term.auto.rows in
    let g = c.loop.invariant.0 in
    let more : 0 < c.args.count - c.loop.counter = omega (arith, c.loop-test.true) in
    let e : c.args.count - (c.loop.counter + 1) ≡ c.args.count - c.loop.counter - 1 = omega arith in
    (rw e (going_on _ _ _ _ _ _ _ _ _ _ _ _ _ _ _ g more _ _ c.in_ok-read_term.ensures _ _ _ refl (kept ∙ g.ready.full)), kept ∙ c.loop.invariant.1)

pub read_block-returns : goal.read_block-returns
read_block-returns t c = going_end _ _ _ _ _ _ _ _ _ _ _ _ _ _ _ c.loop.invariant.0 (omega (arith, c.loop-test.false))

pub read_branches-returns-in_err-read_due_block : goal.read_branches-returns-in_err-read_due_block
read_branches-returns-in_err-read_due_block t c =
    let p = err_from_is_err_and c.from_residual.result c.from_residual.ensures.1 in
    rw (p.1, p.2) (first_refused _ _ _ _ _ _ _ _ _ c.requires _ _ c.in_err-read_due_block.ensures)

pub read_branches-overflow_sub-second : goal.read_branches-overflow_sub-second
read_branches-overflow_sub-second t c = (second_due _ _ _ _ _ _ _ _ _ c.requires c.in_ok-read_due_block.ensures c.read_due_block.auto.rows).from

pub read_branches-slice_bounds-second-count : goal.read_branches-slice_bounds-second-count
read_branches-slice_bounds-second-count t c = (second_due _ _ _ _ _ _ _ _ _ c.requires c.in_ok-read_due_block.ensures c.read_due_block.auto.rows).within

pub read_branches-slice_bounds-second-start : goal.read_branches-slice_bounds-second-start
read_branches-slice_bounds-second-start t c = (second_due _ _ _ _ _ _ _ _ _ c.requires c.in_ok-read_due_block.ensures c.read_due_block.auto.rows).within

pub read_branches-read_due_block-requires-2 : goal.read_branches-read_due_block-requires-2
read_branches-read_due_block-requires-2 t c =
    (omega (arith, c.decreases), going_ready _ _ _ _ _ _ _ _ _ _ _ _ _ _ _ (second_due _ _ _ _ _ _ _ _ _ c.requires c.in_ok-read_due_block.ensures c.read_due_block.auto.rows))

pub read_branches-returns : goal.read_branches-returns
read_branches-returns t c =
    let g = second_due _ _ _ _ _ _ _ _ _ c.requires c.in_ok-read_due_block.ensures c.read_due_block.auto.rows in
    going_last _ _ _ _ _ _ _ _ _ _ _ _ _ _ _ g (omega arith) _ _ c.read_due_block-2.ensures refl

pub read_due_block-returns-then-no_block_byte : goal.read_due_block-returns-then-no_block_byte
unfolding got_of RowsAfter
read_due_block-returns-then-no_block_byte t c =
    rw (c.refused.ensures, byte_refused c.args.limits.now c.args.version c.args.levels c.args.tail.now c.args.progress.now.at c.args.progress.now.terms c.args.progress.now.boxes c.requires.few (sym c.if-no_block_byte.ensures)) (refl, tt)

pub read_due_block-returns : goal.read_due_block-returns
read_due_block-returns t c =
    rw (byte_same c.args.limits.now c.args.version c.args.levels c.args.tail.now c.args.progress.now.at c.args.progress.now.terms c.args.progress.now.boxes c.requires.few (sym c.if-no_block_byte.ensures)) (one_reading _ _ _ _ _ _ c.read_block.ensures)

pub read_term-returns-in_err-kind : goal.read_term-returns-in_err-kind
read_term-returns-in_err-kind t c =
    let p = err_from_is_err_and c.from_residual.result c.from_residual.ensures.1 in
    rw (p.1, p.2) (opening_stops c.loop-kind.invariant _ c.in_err-kind.ensures)

pub read_term-returns-in_err-operands : goal.read_term-returns-in_err-operands
read_term-returns-in_err-operands t c =
    let p = err_from_is_err_and c.from_residual-in_err-operands.result c.from_residual-in_err-operands.ensures.1 in
    rw (p.1, p.2) (operand_stops c.loop-kind.invariant c.in_ok-kind.ensures _ c.in_err-operands.ensures.0)

pub read_term-put_row-requires : goal.read_term-put_row-requires
unfolding row_numbers
read_term-put_row-requires t c = omega (arith, (clear c.loop-kind.invariant c.in_ok-kind.ensures).room, c.loop-kind.invariant.ready.full)

pub read_term-pass-requires-clause-at : goal.read_term-pass-requires-clause-at
read_term-pass-requires-clause-at t c = omega (arith, rest_near c.loop-kind.invariant c.in_ok-kind.ensures c.in_ok-operands.ensures.0 c.in_ok-operands.ensures.1)

pub read_term-pass-requires-clause-terms : goal.read_term-pass-requires-clause-terms
read_term-pass-requires-clause-terms t c = omega (arith, (clear c.loop-kind.invariant c.in_ok-kind.ensures).room, (ranged _ c.loop-kind.invariant.ready.ranges).terms)

pub read_term-pass-requires-clause-boxes : goal.read_term-pass-requires-clause-boxes
read_term-pass-requires-clause-boxes t c = omega (arith, c.loop-kind.invariant.ready.few, (ranged _ c.loop-kind.invariant.ready.ranges).boxes)

pub read_term-overflow_sub-left : goal.read_term-overflow_sub-left
read_term-overflow_sub-left t c = (clear c.loop-kind.invariant c.in_ok-kind.ensures).deep

pub read_term-slice_bounds-inner-count : goal.read_term-slice_bounds-inner-count
read_term-slice_bounds-inner-count t c = used_within c.loop-kind.invariant c.in_ok-kind.ensures c.in_ok-operands.ensures.0 c.in_ok-operands.ensures.1

pub read_term-slice_bounds-inner-start : goal.read_term-slice_bounds-inner-start
read_term-slice_bounds-inner-start t c = used_within c.loop-kind.invariant c.in_ok-kind.ensures c.in_ok-operands.ensures.0 c.in_ok-operands.ensures.1

pub read_term-loop-kind-smaller : goal.read_term-loop-kind-smaller
read_term-loop-kind-smaller t c = omega (arith, (clear c.loop-kind.invariant c.in_ok-kind.ensures).deep)

pub read_term-loop-kind-preserved : goal.read_term-loop-kind-preserved
read_term-loop-kind-preserved t c =
    let k = stands_around _ c.in-Box.is in
    rw c.pass.ensures (inner_on c.loop-kind.invariant c.in_ok-kind.ensures c.in_ok-operands.ensures.0 c.in_ok-operands.ensures.1 c.put_row.ensures k.0 k.1)

pub read_term-read_block-requires : goal.read_term-read_block-requires
read_term-read_block-requires t c =
    let k = ap number_in c.in-Block.is in (
      omega (arith, c.decreases, c.loop-kind.invariant.deep, (clear c.loop-kind.invariant c.in_ok-kind.ensures).deep),
      rw c.pass.ensures (block_asks c.loop-kind.invariant c.in_ok-kind.ensures c.in_ok-operands.ensures.0 c.in_ok-operands.ensures.1 c.put_row.ensures k),
    )

pub read_term-returns-in-Block : goal.read_term-returns-in-Block
read_term-returns-in-Block t c =
    let k = ap number_in c.in-Block.is in
    block_stops c.loop-kind.invariant c.in_ok-kind.ensures c.in_ok-operands.ensures.0 c.in_ok-operands.ensures.1 c.put_row.ensures k _ _ (rw c.pass.ensures at c.read_block.ensures)

pub read_term-read_branches-requires : goal.read_term-read_branches-requires
read_term-read_branches-requires t c =
    let k = ap number_in c.in-Choice.is in (
      omega (arith, c.decreases, c.loop-kind.invariant.deep, (clear c.loop-kind.invariant c.in_ok-kind.ensures).deep),
      rw c.pass.ensures (choice_asks c.loop-kind.invariant c.in_ok-kind.ensures c.in_ok-operands.ensures.0 c.in_ok-operands.ensures.1 c.put_row.ensures k),
    )

pub read_term-returns-in-Choice : goal.read_term-returns-in-Choice
read_term-returns-in-Choice t c =
    let k = ap number_in c.in-Choice.is in
    choice_stops c.loop-kind.invariant c.in_ok-kind.ensures c.in_ok-operands.ensures.0 c.in_ok-operands.ensures.1 c.put_row.ensures k _ _ (rw c.pass.ensures at c.read_branches.ensures)

pub read_term-returns-in_default : goal.read_term-returns-in_default
read_term-returns-in_default t c =
    let d = c.in_default in
    let k = stands_alone _ (d.not-Box, d.not-Let, d.not-Assign, d.not-Block, d.not-Choice) in
    rw c.pass.ensures (leaf_stops c.loop-kind.invariant c.in_ok-kind.ensures c.in_ok-operands.ensures.0 c.in_ok-operands.ensures.1 c.put_row.ensures k.0 k.1 k.2)
