use lib.ListN.{length}
use Rattle.uses.proofs.FoundUses.{UsedBefore}
use Rattle.uses.proofs.uses.find_uses.Given as goal

abbrev pub invariant-loop-i : goal.invariant-loop-i
invariant-loop-i l = UsedBefore (length l.initial.uses) l.rows l.i l.uses
