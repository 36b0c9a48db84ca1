-- The measure is the number of cells not given back.
use mathlib.Core.List.{[]}
use Rattle.dynamics.specs.Drop.{cells_left}
use Rattle.store.specs.StoreParts.{state_at}
use Rattle.store.proofs.drops.+give_back.Given as goal

abbrev pub decreases-give_back : goal.decreases-give_back
decreases-give_back l = cells_left (state_at l.limits.now l.store.now l.limits.now.boxes [])
