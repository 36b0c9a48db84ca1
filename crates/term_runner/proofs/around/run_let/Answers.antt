-- `term_runner::around::run_let` meets its contract. Assumes nothing.
use Rattle.term_runner.proofs.AroundLaws.{let_open, let_goes}
use Rattle.syntax.proofs.Ranges.{ranged}
use native.Mathlib.Omega.{arith}
use mathlib.Core.Path.{refl}
use Rattle.std.proofs.lemmas.Result.{IfOk-at_ok}
use Rattle.term_runner.proofs.around.run_let.Goals as goal

pub returns-in-Open : goal.returns-in-Open
returns-in-Open c = rw c.in_ok-inner.was (let_open _ _ _ _ _ _ (IfOk-at_ok _ c.in_ok-inner.was c.requires).variable _ c.load.ensures _ c.in-Open.is (IfOk-at_ok _ c.in_ok-inner.was c.requires).ready.tidy)

pub overflow_cast-opened : goal.overflow_cast-opened
overflow_cast-opened c = omega (arith, (IfOk-at_ok _ c.in_ok-inner.was c.requires).variable, (ranged _ (IfOk-at_ok _ c.in_ok-inner.was c.requires).ready.tidy.ranges).variables)

pub returns : goal.returns
returns c = rw c.in_ok-inner.was (let_goes _ _ _ _ _ _ (IfOk-at_ok _ c.in_ok-inner.was c.requires).variable _ c.load.ensures c.in_default.not-Open (IfOk-at_ok _ c.in_ok-inner.was c.requires).few _ c.put_row.ensures _ refl)
