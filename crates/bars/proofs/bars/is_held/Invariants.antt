use Rattle.variables.specs.Masks.{has}
use Rattle.statics.proofs.ClosureLoop.{count, waiting}
use Rattle.bars.proofs.BarLaws.{Seeking}
use Rattle.bars.proofs.bars.is_held.Given as goal

abbrev pub invariant-loop-x : goal.invariant-loop-x
invariant-loop-x l = Seeking l.env l.which l.root l.near.all l.near.named l.met l.left

abbrev pub decreases-loop-x : goal.decreases-loop-x
decreases-loop-x l = count (waiting (has l.met) (has l.left)) 128
