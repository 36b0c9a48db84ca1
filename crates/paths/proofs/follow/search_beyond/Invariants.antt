use Rattle.variables.specs.Masks.{has}
use Rattle.statics.proofs.ClosureLoop.{count, waiting}
use Rattle.paths.proofs.SearchLaws.{Searching}
use Rattle.paths.proofs.follow.search_beyond.Given as goal

abbrev pub invariant-loop-x : goal.invariant-loop-x
invariant-loop-x l = Searching l.env l.root l.remaining l.deep l.met l.todo l.ends

abbrev pub decreases-loop-x : goal.decreases-loop-x
decreases-loop-x l = count (waiting (has l.met) (has l.todo)) l.variables
