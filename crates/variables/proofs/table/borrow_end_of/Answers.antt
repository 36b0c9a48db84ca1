-- `variables::table::borrow_end_of` meets its contract. The rest of the links, without boxes before it, has the same borrow end. Assumes nothing.
use Rattle.std.proofs.Common.{sym, ◌∙◌, arith}
use Rattle.variables.proofs.EndLaws.{end_number, end_boxed, end_shared, end_exclusive}
use Rattle.variables.proofs.table.borrow_end_of.Goals as goal

pub loop-link-smaller : goal.loop-link-smaller
loop-link-smaller c = omega (arith, c.in-Some.ensures.1)

pub loop-link-preserved : goal.loop-link-preserved
loop-link-preserved c = sym (end_boxed _ _ _ c.args.roots c.in-Some.ensures.0 c.in-Box.is) ∙ c.loop-link.invariant

pub returns-in-Shared : goal.returns-in-Shared
returns-in-Shared c = sym (end_shared _ _ _ c.args.roots c.in-Some.ensures.0 c.in-Shared.is) ∙ c.loop-link.invariant

pub returns-in-Exclusive : goal.returns-in-Exclusive
returns-in-Exclusive c = sym (end_exclusive _ _ _ c.args.roots c.in-Some.ensures.0 c.in-Exclusive.is) ∙ c.loop-link.invariant

pub returns : goal.returns
returns c = sym (end_number c.loop-link.rest c.args.roots c.in_default.ensures) ∙ c.loop-link.invariant
