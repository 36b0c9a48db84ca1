-- `term_runner::skip::after_term` meets its contract. The loop's invariant is `Passing`: what is still to pass leads to the row after the term. Assumes nothing.
use Rattle.term_runner.proofs.SkipLaws.{passing_starts, passing_ends, passing_room, passing_goes, passing_few}
use native.Mathlib.Omega.{arith}
use Rattle.term_runner.proofs.skip.after_term.Goals as goal

pub loop-left-init : goal.loop-left-init
loop-left-init c = passing_starts _ _

pub inside-more-requires : goal.inside-more-requires
inside-more-requires c =
    let at_loop = c.before in
    passing_room _ _ _ _ at_loop.loop-left.invariant at_loop.before.before.requires c.loop-left-test.true

pub overflow_sub-left : goal.overflow_sub-left
overflow_sub-left c = omega (arith, c.before.loop-left-test.true)

pub overflow_add-left : goal.overflow_add-left
overflow_add-left c =
    let at-loop-test = c.before in
    let at_loop = at-loop-test.before in
    omega (arith, passing_few _ _ _ _ at_loop.loop-left.invariant at_loop.before.before.requires at-loop-test.loop-left-test.true _ c.inside-more.ensures)

pub overflow_add-at : goal.overflow_add-at
overflow_add-at c =
    let at-loop-test = c.before in
    let at_loop = at-loop-test.before in
    omega (arith, passing_room _ _ _ _ at_loop.loop-left.invariant at_loop.before.before.requires at-loop-test.loop-left-test.true)

pub loop-left-smaller : goal.loop-left-smaller
loop-left-smaller c =
    let at-loop-test = c.before in
    let at_loop = at-loop-test.before in
    omega (arith, passing_room _ _ _ _ at_loop.loop-left.invariant at_loop.before.before.requires at-loop-test.loop-left-test.true)

pub loop-left-preserved : goal.loop-left-preserved
loop-left-preserved c =
    let at-loop-test = c.before in
    let at_loop = at-loop-test.before in
    passing_goes _ _ _ _ at_loop.loop-left.invariant at_loop.before.before.requires at-loop-test.loop-left-test.true _ c.inside-more.ensures

pub returns : goal.returns
returns c = passing_ends _ _ _ _ c.before.loop-left.invariant c.loop-left-test.false
