-- `syntax::opening::no_block_byte` meets its contract. Assumes nothing.
use native.Mathlib.Omega.{arith}
use mathlib.Core.Path.{refl, sym, ap, ◌∙◌}
use mathlib.Core.Bool.{not}
use lib.ListN.{length}
use borrow.Author.Tests.{le-ltb}
use Rattle.syntax.specs.ByteParts.{no_block_byte}
use Rattle.syntax.proofs.KindTests.{block_test}
use Rattle.syntax.proofs.OpeningLaws.{nothing_first, first_within, first_is}
use Rattle.syntax.proofs.opening.no_block_byte.Goals as goal

pub returns-in_default : goal.returns-in_default
unfolding no_block_byte
returns-in_default c = rw (le-ltb 0 (length c.args.tail.now) (omega (arith, nothing_first c.args.tail.now c.in_default.ensures.value))) refl

pub returns-in_default-in_version : goal.returns-in_default-in_version
unfolding no_block_byte
returns-in_default-in_version c =
    let f = first_is c.args.tail.now _ c.in-Some.ensures.value _ c.from.ensures in
    rw (first_within c.args.tail.now _ c.in-Some.ensures.value, f, c.in_default-in_version.ensures) refl

pub returns : goal.returns
unfolding no_block_byte
returns c =
    let f = first_is c.args.tail.now _ c.in-Some.ensures.value _ c.from.ensures ∙ sym c.in-Some-in_version.ensures.0 in
    let known = rw (← c.in-Some-in_version.ensures.0) at c.in-Some-in_version.ensures.1 in
    rw (first_within c.args.tail.now _ c.in-Some.ensures.value, f, known) (c.ne.ensures ∙ ap not (block_test _))
