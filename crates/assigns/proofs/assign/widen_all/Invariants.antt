use mathlib.Core.Path.{◌≡◌}
use lib.ListN.{length}
use Rattle.variables.specs.Table.{TableFor}
use Rattle.rules.proofs.WriteLaws.{Widening}
use Rattle.assigns.proofs.assign.widen_all.Given as goal

abbrev pub invariant-loop-x : goal.invariant-loop-x
invariant-loop-x l = TableFor l.env l.variables × (length l.env ≡ length l.initial.env) × Widening l.initial.env l.fn.to l.x-iterator.left l.roots l.env
