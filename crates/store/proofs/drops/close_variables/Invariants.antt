use Rattle.store.proofs.CellLaws.{Closing}
use Rattle.store.proofs.drops.close_variables.Given as goal

abbrev pub invariant-loop-k : goal.invariant-loop-k
invariant-loop-k l = Closing l.limits l.initial.store l.opened l.begin l.end l.store l.k
