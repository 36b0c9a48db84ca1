-- `term_runner::skip::chosen` meets its contract. Assumes nothing.
use Rattle.syntax.proofs.RowTreeLaws.{has_room}
use native.Mathlib.Omega.{arith}
use Rattle.term_runner.proofs.skip.chosen.Goals as goal

pub overflow_add-first : goal.overflow_add-first
overflow_add-first c = let p = c.before.requires in omega (arith, has_room _ _ _ _ p.is)
