use Prim.Native.Nat.{◌+◌, ◌*◌, ◌-◌}
use mathlib.Core.Path.{◌≡◌}
use mathlib.Core.Bool.{false}
use lib.ListN.{length}
use Rattle.term_reader.proofs.LoopLaws.{Going}
use Rattle.term_reader.proofs.TermLoop.{Inner}
use Rattle.term_reader.proofs.terms.+terms.Given as goal

abbrev pub decreases-read_block : goal.decreases-read_block
decreases-read_block l = l.levels * 4 + 1

abbrev pub decreases-read_branches : goal.decreases-read_branches
decreases-read_branches l = l.levels * 4 + 3

abbrev pub decreases-read_due_block : goal.decreases-read_due_block
decreases-read_due_block l = l.levels * 4 + 2

abbrev pub decreases-read_term : goal.decreases-read_term
decreases-read_term l = l.levels * 4

abbrev pub invariant-read_block-loop : goal.invariant-read_block-loop
invariant-read_block-loop l = Going l.limits l.version l.levels false l.count l.tail l.start l.fn.progress.terms l.fn.progress.boxes l.fn.rows l.rows l.progress.at l.progress.terms l.progress.boxes (l.count - l.counter) × (length l.rows ≡ length l.fn.rows)

abbrev pub invariant-read_term-loop-kind : goal.invariant-read_term-loop-kind
invariant-read_term-loop-kind l = Inner l.limits l.version l.levels l.tail l.start l.fn.progress.terms l.fn.progress.boxes l.fn.rows l.rows l.progress.at l.left l.progress.terms l.progress.boxes

abbrev pub decreases-read_term-loop-kind : goal.decreases-read_term-loop-kind
decreases-read_term-loop-kind l = l.left
