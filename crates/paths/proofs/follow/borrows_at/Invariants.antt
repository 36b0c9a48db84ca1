use Rattle.paths.proofs.GatherLaws.{Gathering}
use Rattle.paths.proofs.follow.borrows_at.Given as goal

abbrev pub invariant-loop-x : goal.invariant-loop-x
invariant-loop-x l = Gathering l.env l.fn.to l.roots l.x-iterator.left
