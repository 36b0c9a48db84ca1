use Prim.Native.Nat.{ℕ, ◌<◌}
use mathlib.Core.Path.{◌≡◌}
use mathlib.Core.Bool.{Bool, true}
use mathlib.Core.List.{List}
use lib.Dec.{leb}
use Rattle.syntax.specs.Script.{Place}
use Rattle.variables.specs.declared.table.Row.{Row}
use Rattle.variables.specs.declared.roots.Roots.{Roots}
use Rattle.statics.specs.Places.{every}
use Rattle.statics.specs.Environment.{level_of}
use Rattle.statics.specs.Roots.{lengths, places_of}
use Rattle.variables.specs.Table.{environment_of, long_at}
use Rattle.variables.specs.Masks.{has}
use Rattle.assigns.proofs.assign.live_long_enough.Given as goal

abbrev pub lives : List Row → Roots → ℕ → ℕ → Bool
lives env roots m level = every (λ p. leb (level_of (environment_of env p.root)) level) (places_of 128 (has roots) (long_at env) m)

abbrev pub outlives : List Row → Roots → ℕ → Place → Bool
outlives env roots m q = lives env roots m (level_of (environment_of env q.root))

abbrev pub all_outlive : List Row → ℕ → Roots → Roots → ℕ → ℕ → Bool
all_outlive env variables roots left m k = every (outlives env roots m) (places_of variables (has left) (lengths (environment_of env)) k)

abbrev pub invariant-loop-x : goal.invariant-loop-x
invariant-loop-x l = ((y : ℕ) → has l.x-iterator.left y ≡ true → y < l.variables) × ((m k : ℕ) → all_outlive l.env l.variables l.roots l.x-iterator.left m k ≡ all_outlive l.env l.variables l.roots l.fn.to m k)
