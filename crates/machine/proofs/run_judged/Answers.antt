-- `machine::run_judged` meets its contract. Assumes nothing.
use Rattle.machine.proofs.ScriptLaws.{run_ranged}
use native.Mathlib.Omega.{arith}
use Rattle.machine.proofs.run_judged.Goals as goal

pub run_with-requires : goal.run_with-requires
run_with-requires c = (c.requires, omega arith, omega arith)

pub run_with-requires-2 : goal.run_with-requires-2
run_with-requires-2 c = (c.requires, omega (arith, (run_ranged _ _ _ _ c.requires).terms), omega arith)
