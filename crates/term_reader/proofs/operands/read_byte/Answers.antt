-- `term_reader::operands::read_byte` meets its contract: each test of the code is one of `field_number`. Assumes nothing.
use mathlib.Core.Path.{refl, sym, ◌∙◌}
use lib.ListN.{length}
use borrow.Author.Tests.{lt-ltb, le-ltb, le-leb, lt-leb}
use Rattle.syntax.specs.ByteParts.{field_number, on_number}
use Rattle.term_reader.proofs.operands.read_byte.Goals as goal
use Rattle.term_reader.proofs.operands.read_byte.Goals.{then-value-low-via-then-value-low, then-value-low-via-else-value-low+then-high-value}

pub returns-in_default : goal.returns-in_default
unfolding field_number on_number
returns-in_default c = rw (le-leb _ _ c.in_default.ensures.lookup.3) refl

pub returns-then-value-low : goal.returns-then-value-low
unfolding field_number on_number
returns-then-value-low c =
    let within = c.in-Some.ensures.lookup.3.0 in
    let value = sym (c.from-value.ensures ∙ c.in-Some.ensures.lookup.3.1 0) in
    elim c.then-value-low.branch [
      | then-value-low-via-then-value-low w ↦ rw (lt-leb (length c.args.tail.now) c.args.j within, value, lt-leb _ _ w.if-value-low.true) refl
      | then-value-low-via-else-value-low+then-high-value w ↦ rw (lt-leb (length c.args.tail.now) c.args.j within, value, le-leb _ _ w.if-value-low.false, le-ltb _ _ w.if-high-value.true) refl
    ]

pub returns : goal.returns
unfolding field_number on_number
returns c =
    let within = c.in-Some.ensures.lookup.3.0 in
    let value = sym (c.from-value.ensures ∙ c.in-Some.ensures.lookup.3.1 0) in
    rw (lt-leb (length c.args.tail.now) c.args.j within, value, le-leb _ _ c.if-value-low.false, lt-ltb _ _ c.if-high-value.false) refl
