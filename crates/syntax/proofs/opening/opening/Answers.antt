-- `syntax::opening::opening` meets its contract. Assumes nothing.
use mathlib.Core.Path.{refl, sym, ◌∙◌}
use borrow.Author.Tests.{eq-eqb, ne_eqb, le-leb, lt-leb}
use Rattle.syntax.specs.ByteParts.{opening_number, on_number}
use Rattle.syntax.proofs.KindTests.{box_test}
use Rattle.syntax.proofs.OpeningLaws.{nothing_first, first_there, first_is}
use Rattle.syntax.proofs.opening.opening.Goals as goal
use Rattle.syntax.proofs.opening.opening.Goals.{else-eq-via-then-eq+else-limits-progress-2, else-eq-via-else-eq}

pub returns-in_default : goal.returns-in_default
unfolding opening_number on_number
returns-in_default c = rw (c.refused.ensures, eq-eqb _ _ (nothing_first c.args.tail.now c.in_default.ensures.value)) refl

pub returns-in_default-in_version : goal.returns-in_default-in_version
unfolding opening_number on_number
returns-in_default-in_version c =
    let f = first_is c.args.tail.now _ c.in-Some.ensures.value _ c.from.ensures in
    rw (c.refused-in_default-in_version.ensures, first_there c.args.tail.now _ c.in-Some.ensures.value, f, c.in_default-in_version.ensures) refl

pub returns-then-limits-progress : goal.returns-then-limits-progress
unfolding opening_number on_number
returns-then-limits-progress c =
    let f = first_is c.args.tail.now _ c.in-Some.ensures.value _ c.from.ensures in
    rw (c.refused-then-limits-progress.ensures, first_there c.args.tail.now _ c.in-Some.ensures.value, f, c.in-Some-in_version.ensures.1, le-leb _ _ c.if-limits-progress.true) refl

pub returns-then-levels-eq0 : goal.returns-then-levels-eq0
unfolding opening_number on_number
returns-then-levels-eq0 c =
    let f = first_is c.args.tail.now _ c.in-Some.ensures.value _ c.from.ensures in
    rw (c.refused-then-levels-eq0.ensures, first_there c.args.tail.now _ c.in-Some.ensures.value, f, c.in-Some-in_version.ensures.1, lt-leb _ _ c.if-limits-progress.false, eq-eqb c.args.levels 0 c.if-levels-eq0.true) refl

pub returns-then-limits-progress-2 : goal.returns-then-limits-progress-2
unfolding opening_number on_number
returns-then-limits-progress-2 c =
    let f = first_is c.args.tail.now _ c.in-Some.ensures.value _ c.from.ensures ∙ sym c.in-Some-in_version.ensures.0 in
    let known = rw (← c.in-Some-in_version.ensures.0) at c.in-Some-in_version.ensures.1 in
    rw (c.refused-then-limits-progress-2.ensures, first_there c.args.tail.now _ c.in-Some.ensures.value, f, known, lt-leb _ _ c.if-limits-progress.false, ne_eqb c.args.levels 0 c.if-levels-eq0.false, sym (box_test _) ∙ sym c.if-eq.ensures, le-leb _ _ c.if-limits-progress-2.true) refl

pub returns : goal.returns
unfolding opening_number on_number
returns c =
    let f = first_is c.args.tail.now _ c.in-Some.ensures.value _ c.from.ensures ∙ sym c.in-Some-in_version.ensures.0 in
    let known = rw (← c.in-Some-in_version.ensures.0) at c.in-Some-in_version.ensures.1 in
    rw (first_there c.args.tail.now _ c.in-Some.ensures.value, f, known, lt-leb _ _ c.if-limits-progress.false, ne_eqb c.args.levels 0 c.if-levels-eq0.false)
    (elim c.else-eq.branch [
      | else-eq-via-then-eq+else-limits-progress-2 w ↦ rw (sym (box_test _) ∙ sym w.if-eq.ensures, lt-leb _ _ w.if-limits-progress-2.false) refl
      | else-eq-via-else-eq w ↦ rw (sym (box_test _) ∙ sym w.if-eq.ensures) refl
    ])
