use mathlib.Core.Path.{◌≡◌}
use lib.ListN.{length}
use Rattle.paths.proofs.LeavingLaws.{Leaving}
use Rattle.paths.proofs.environment.leave_blocks.Given as goal

abbrev pub invariant-loop-x : goal.invariant-loop-x
invariant-loop-x l = (length l.env ≡ length l.initial.env) × Leaving l.initial.env l.initial.x-iterator.left l.x-iterator.left l.env
