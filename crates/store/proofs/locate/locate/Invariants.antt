use Prim.Native.Nat.{◌-◌}
use Rattle.store.proofs.LocateLaws.{Leading}
use Rattle.store.proofs.locate.locate.Given as goal

abbrev pub invariant-loop : goal.invariant-loop
invariant-loop l = Leading l.limits l.store l.fn.place.root l.fn.place.follows l.row (l.fn.place.follows - l.counter)
