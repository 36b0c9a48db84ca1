-- `store::locate::locate` meets its contract. Assumes nothing.
use native.Mathlib.Omega.{arith}
use Rattle.store.proofs.LocateLaws.{leading_starts, leading_stops, leading_goes, leading_shut, leading_ends}
use Rattle.store.proofs.Again.{again}
use Rattle.store.proofs.locate.locate.Goals as goal

pub loop-init : goal.loop-init
loop-init c = leading_starts _ _ _ _ _ c.requires.1 (omega arith)

pub returns-in_err-row : goal.returns-in_err-row
returns-in_err-row c = rw (again c.in_err-row.field-0.0 c.from_residual.result c.from_residual.ensures) (leading_stops _ _ _ _ _ _ c.loop.invariant (omega arith) _ c.in_err-row.ensures)

pub loop-preserved : goal.loop-preserved
loop-preserved c = leading_goes _ _ _ _ _ _ c.loop.invariant (omega arith) _ (omega arith) _ c.in_ok-row.ensures

pub returns-in-Open : goal.returns-in-Open
returns-in-Open c = leading_ends _ _ _ _ _ _ c.loop.invariant (omega arith) _ c.load.ensures _ c.in-Open.is

pub returns-in_default : goal.returns-in_default
returns-in_default c = leading_shut _ _ _ _ _ _ c.loop.invariant (omega arith) _ c.load.ensures c.in_default.not-Open
