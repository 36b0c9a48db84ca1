-- The judges of a term, of a block's terms, of a block that is due and of a choice's two, which call one another, meet their contracts. Each
-- term inside another has one level less left. The loops' invariants: the terms that are left, from where it stands, have the span of the whole
-- block; and inside box, let and assign, the term where it stands has the span of the whole term. Assumes nothing.
use Prim.Native.Nat.{◌-◌}
use native.Mathlib.Omega.{arith}
use mathlib.Core.Path.{refl, sym, ◌∙◌}
use mathlib.Core.Bool.{true, false}
use Rattle.std.proofs.lemmas.Result.{err_from_is_err_and}
use Rattle.syntax.specs.Limits.{row_numbers}
use Rattle.syntax.proofs.Ranges.{ranged}
use Rattle.row_judge.proofs.RowSpans.{told_err, refused_span, row_room, row_deep, leaf_spans, box_few, box_spans, wrap_spans, block_spans, block_count, Words, all_span, none_span, stop_span, rest_left, rest_room, rest_few, rest_span_law, first_span, second_span, choice_spans}
use Rattle.row_judge.proofs.DueBlock.{due_refused, due_same}
use Rattle.row_judge.proofs.rows.+terms.Goals as goal

pub judge_block-loop-term-init : goal.judge_block-loop-term-init
judge_block-loop-term-init t c = record { ready = c.requires.0; rest = rest_left _ _ _ _ _ _ _ _ _ (omega arith) }

pub judge_block-returns-in_err-judge_term : goal.judge_block-returns-in_err-judge_term
judge_block-returns-in_err-judge_term t c =
    let p = err_from_is_err_and c.from_residual.result c.from_residual.ensures.1 in
    told_err _ _ _ _ p.1 p.2 ∙ stop_span _ _ _ _ _ _ _ (c.args.count - c.loop-term._term) (omega arith) _ c.in_err-judge_term.ensures ∙ c.loop-term.invariant.rest ∙ all_span _ _ _ _ _ _ _ _ c.requires.1

pub judge_block-loop-term-preserved : goal.judge_block-loop-term-preserved
judge_block-loop-term-preserved t c =
    let l = c.loop-term in
    let words : Words c.args.rows.now = λ k. omega (arith, c.type_inv.rows k) in
    let q = c.in_ok-judge_term.ensures in
    let few = rest_few _ _ c.args.levels false _ l.progress.next l.progress.boxes words _ _ q in
    let room = rest_room _ _ c.args.levels false _ l.progress.next l.progress.boxes words _ _ q in
    record {
      ready = record { ranges = l.invariant.ready.ranges; full = l.invariant.ready.full; near = omega (arith, room, (ranged _ l.invariant.ready.ranges).terms); few = few };
      rest = rest_left _ _ _ _ _ _ _ _ _ (omega arith) ∙ rest_span_law _ _ _ _ _ _ _ words _ _ q (c.args.count - l._term) (omega arith) ∙ l.invariant.rest;
    }

pub judge_block-returns : goal.judge_block-returns
judge_block-returns t c =
    none_span _ _ _ _ _ _ _ (c.args.count - c.loop-term._term) (omega arith) ∙ c.loop-term.invariant.rest ∙ all_span _ _ _ _ _ _ _ _ c.requires.1

pub judge_branches-returns-in_err-judge_due_block : goal.judge_branches-returns-in_err-judge_due_block
judge_branches-returns-in_err-judge_due_block t c =
    let p = err_from_is_err_and c.from_residual.result c.from_residual.ensures.1 in
    told_err _ _ _ _ p.1 p.2 ∙ first_span _ _ _ _ c.args.rows.now c.args.progress.now.next c.args.progress.now.boxes _ c.in_err-judge_due_block.ensures

pub judge_branches-judge_due_block-requires-2 : goal.judge_branches-judge_due_block-requires-2
judge_branches-judge_due_block-requires-2 t c =
    let words : Words c.args.rows.now = λ k. omega (arith, c.type_inv.rows k) in
    let few = rest_few _ _ c.args.levels true _ c.args.progress.now.next c.args.progress.now.boxes words _ _ c.in_ok-judge_due_block.ensures in
    let room = rest_room _ _ c.args.levels true _ c.args.progress.now.next c.args.progress.now.boxes words _ _ c.in_ok-judge_due_block.ensures in
    (omega (arith, c.decreases), record { ranges = c.requires.ranges; full = c.requires.full; near = omega (arith, room, (ranged _ c.requires.ranges).terms); few = few })

pub judge_branches-returns : goal.judge_branches-returns
judge_branches-returns t c =
    let words : Words c.args.rows.now = λ k. omega (arith, c.type_inv.rows k) in
    c.judge_due_block-2.ensures ∙ second_span _ _ _ _ _ c.args.progress.now.next c.args.progress.now.boxes words _ _ c.in_ok-judge_due_block.ensures

pub judge_due_block-returns-then-no_block : goal.judge_due_block-returns-then-no_block
judge_due_block-returns-then-no_block t c = due_refused _ _ _ _ _ _ c.requires.full c.requires.few (sym c.no_block.ensures ∙ c.if-no_block.true)

pub judge_due_block-returns : goal.judge_due_block-returns
judge_due_block-returns t c = c.judge_block.ensures ∙ due_same _ _ _ _ _ _ c.requires.full c.requires.few (sym c.no_block.ensures ∙ c.if-no_block.false)

pub judge_term-returns-in-Err : goal.judge_term-returns-in-Err
judge_term-returns-in-Err t c = refused_span _ _ _ _ _ _ _ c.loop-kind.invariant.ready _ c.in-Err.ensures ∙ c.loop-kind.invariant.same

pub judge_term-overflow_sub-left : goal.judge_term-overflow_sub-left
judge_term-overflow_sub-left t c =
    let l = c.loop-kind in
    let k = c.in-Ok.ensures in
    omega (arith, row_deep _ _ _ _ _ _ _ l.invariant.ready _ k)

pub judge_term-overflow_add-progress-in-Box : goal.judge_term-overflow_add-progress-in-Box
judge_term-overflow_add-progress-in-Box t c =
    let l = c.loop-kind in
    let k = c.in-Ok.ensures in
    omega (arith, box_few _ _ _ _ _ _ _ l.invariant.ready _ k c.in-Box.is, (ranged _ l.invariant.ready.ranges).boxes)

pub judge_term-loop-kind-smaller-in-Box : goal.judge_term-loop-kind-smaller-in-Box
judge_term-loop-kind-smaller-in-Box t c =
    let l = c.loop-kind in
    let k = c.in-Ok.ensures in
    omega (arith, row_deep _ _ _ _ _ _ _ l.invariant.ready _ k)

pub judge_term-loop-kind-preserved-in-Box : goal.judge_term-loop-kind-preserved-in-Box
judge_term-loop-kind-preserved-in-Box t c =
    let l = c.loop-kind in
    let k = c.in-Ok.ensures in
    record { ready = record { ranges = l.invariant.ready.ranges; full = l.invariant.ready.full; near = omega (arith, row_room _ _ _ _ _ _ _ l.invariant.ready _ k, (ranged _ l.invariant.ready.ranges).terms); few = box_few _ _ _ _ _ _ _ l.invariant.ready _ k c.in-Box.is }; deep = omega (arith, l.invariant.deep); same = box_spans _ _ _ _ _ _ _ l.invariant.ready _ k c.in-Box.is _ refl ∙ l.invariant.same }

pub judge_term-loop-kind-smaller : goal.judge_term-loop-kind-smaller
judge_term-loop-kind-smaller t c =
    let l = c.loop-kind in
    let k = c.in-Ok.ensures in
    omega (arith, row_deep _ _ _ _ _ _ _ l.invariant.ready _ k)

pub judge_term-loop-kind-preserved : goal.judge_term-loop-kind-preserved
judge_term-loop-kind-preserved t c =
    let l = c.loop-kind in
    let k = c.in-Ok.ensures in
    record { ready = record { ranges = l.invariant.ready.ranges; full = l.invariant.ready.full; near = omega (arith, row_room _ _ _ _ _ _ _ l.invariant.ready _ k, (ranged _ l.invariant.ready.ranges).terms); few = l.invariant.ready.few }; deep = omega (arith, l.invariant.deep); same = wrap_spans _ _ _ _ _ _ _ l.invariant.ready _ k c.in-Let.is _ refl ∙ l.invariant.same }

pub judge_term-index_at-count-requires : goal.judge_term-index_at-count-requires
unfolding row_numbers
judge_term-index_at-count-requires t c =
    let l = c.loop-kind in
    let k = c.in-Ok.ensures in
    (omega (arith, l.invariant.ready.full, row_room _ _ _ _ _ _ _ l.invariant.ready _ k), omega arith)

pub judge_term-judge_block-requires : goal.judge_term-judge_block-requires
judge_term-judge_block-requires t c =
    let l = c.loop-kind in
    let k = c.in-Ok.ensures in
    (omega (arith, c.decreases, l.invariant.deep, row_deep _ _ _ _ _ _ _ l.invariant.ready _ k), (record { ranges = l.invariant.ready.ranges; full = l.invariant.ready.full; near = omega (arith, row_room _ _ _ _ _ _ _ l.invariant.ready _ k, (ranged _ l.invariant.ready.ranges).terms); few = l.invariant.ready.few }, block_count _ _ _ _ _ _ _ l.invariant.ready _ k c.in-Block.is _ c.index_at-count.ensures))

pub judge_term-returns-in-Block : goal.judge_term-returns-in-Block
judge_term-returns-in-Block t c =
    let l = c.loop-kind in
    let k = c.in-Ok.ensures in
    block_spans _ _ _ _ _ _ _ l.invariant.ready _ k c.in-Block.is _ c.index_at-count.ensures _ c.judge_block.ensures ∙ l.invariant.same

pub judge_term-judge_branches-requires : goal.judge_term-judge_branches-requires
judge_term-judge_branches-requires t c =
    let l = c.loop-kind in
    let k = c.in-Ok.ensures in
    (omega (arith, c.decreases, l.invariant.deep, row_deep _ _ _ _ _ _ _ l.invariant.ready _ k), record { ranges = l.invariant.ready.ranges; full = l.invariant.ready.full; near = omega (arith, row_room _ _ _ _ _ _ _ l.invariant.ready _ k, (ranged _ l.invariant.ready.ranges).terms); few = l.invariant.ready.few })

pub judge_term-returns-in-Choice : goal.judge_term-returns-in-Choice
judge_term-returns-in-Choice t c =
    let l = c.loop-kind in
    let k = c.in-Ok.ensures in
    choice_spans _ _ _ _ _ _ _ l.invariant.ready _ k c.in-Choice.is _ c.judge_branches.ensures ∙ l.invariant.same

pub judge_term-returns-in_default : goal.judge_term-returns-in_default
judge_term-returns-in_default t c =
    let l = c.loop-kind in
    let k = c.in-Ok.ensures in
    leaf_spans _ _ _ _ _ _ _ l.invariant.ready _ k c.in_default.not-Box c.in_default.not-Let c.in_default.not-Assign c.in_default.not-Block c.in_default.not-Choice ∙ l.invariant.same
