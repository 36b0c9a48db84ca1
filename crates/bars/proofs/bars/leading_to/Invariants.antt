use Rattle.variables.specs.Masks.{has}
use Rattle.bars.specs.Leading.{named_from}
use Rattle.bars.proofs.LeadingLaws.{Gathering, steps}
use Rattle.bars.proofs.bars.leading_to.Given as goal

abbrev pub invariant-loop-x : goal.invariant-loop-x
invariant-loop-x l = Gathering l.env l.root l.initial.left (named_from l.later.uses.now l.later.from (has l.later.named)) l.all l.towards l.left l.named

abbrev pub decreases-loop-x : goal.decreases-loop-x
decreases-loop-x l = steps l.all l.left
