-- `store::drops::close_variables` meets its contract. Assumes nothing.
use native.Mathlib.Omega.{arith}
use mathlib.Core.Path.{refl}
use Rattle.store.proofs.Again.{again}
use Rattle.store.proofs.CellLaws.{closing_stops, closing_goes, closing_ends}
use Rattle.store.proofs.drops.close_variables.Goals as goal

pub loop-k-preserved : goal.loop-k-preserved
loop-k-preserved c = closing_goes _ _ _ _ _ _ _ c.loop-k.invariant (omega arith) _ refl _ _ c.in_ok-close_variable.ensures

pub returns-in_err-close_variable : goal.returns-in_err-close_variable
returns-in_err-close_variable c = rw (again c.in_err-close_variable.field-0.0 c.from_residual.result c.from_residual.ensures) (closing_stops _ _ _ _ _ _ _ c.loop-k.invariant (omega arith) _ refl _ _ c.in_err-close_variable.ensures)

pub returns : goal.returns
returns c = closing_ends _ _ _ _ _ _ _ c.loop-k.invariant (omega arith)
