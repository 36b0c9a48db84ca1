-- `term_runner::around::run_box` meets its contract. Assumes nothing.
use Rattle.syntax.proofs.Ranges.{ranged}
use Rattle.term_runner.proofs.AroundLaws.{box_goes}
use native.Mathlib.Omega.{arith}
use Rattle.std.proofs.lemmas.Result.{IfOk-at_ok}
use Rattle.term_runner.proofs.around.run_box.Goals as goal

pub overflow_add-row : goal.overflow_add-row
overflow_add-row c = let p = IfOk-at_ok _ c.in_ok-inner.was c.requires in let r = ranged _ p.ready.tidy.ranges in omega (arith, r, p.few)

pub overflow_cast-result : goal.overflow_cast-result
overflow_cast-result c = let p = IfOk-at_ok _ c.in_ok-inner.was c.requires in let r = ranged _ p.ready.tidy.ranges in record { fits = omega (arith, r, p.few) }

pub overflow_add-result : goal.overflow_add-result
overflow_add-result c = let p = IfOk-at_ok _ c.in_ok-inner.was c.requires in let r = ranged _ p.ready.tidy.ranges in omega (arith, r, p.few)

pub returns : goal.returns
returns c = rw c.in_ok-inner.was (box_goes _ _ _ (IfOk-at_ok _ c.in_ok-inner.was c.requires).few _ c.put_row.ensures)
