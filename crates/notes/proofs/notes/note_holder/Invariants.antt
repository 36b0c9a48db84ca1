use mathlib.Core.Path.{◌≡◌}
use lib.ListN.{length}
use Rattle.notes.proofs.NoteLaws.{Noting}
use Rattle.notes.proofs.notes.note_holder.Given as goal

abbrev pub invariant-loop-root : goal.invariant-loop-root
invariant-loop-root l = (length l.env ≡ length l.initial.env) × Noting l.variables l.initial.env l.x l.fn.roots l.root-iterator.left l.env
