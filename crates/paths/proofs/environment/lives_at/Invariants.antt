use Prim.Native.Nat.{ℕ}
use mathlib.Core.Bool.{Bool}
use mathlib.Core.List.{List}
use mathlib.Core.Path.{◌≡◌}
use lib.Dec.{leb}
use Rattle.syntax.specs.Script.{Place}
use Rattle.variables.specs.declared.table.Row.{Row}
use Rattle.statics.specs.Environment.{level_of}
use Rattle.statics.specs.Places.{every}
use Rattle.statics.specs.Roots.{places_of}
use Rattle.variables.specs.Masks.{has}
use Rattle.variables.specs.Table.{environment_of, long_at}
use Rattle.paths.proofs.environment.lives_at.Given as goal

abbrev pub around : List Row → ℕ → Place → Bool
around env level p = leb (level_of (environment_of env p.root)) level

abbrev pub invariant-loop-root : goal.invariant-loop-root
invariant-loop-root l = (m : ℕ) → every (around l.env l.level) (places_of 128 (has l.root-iterator.left) (long_at l.env) m) ≡ every (around l.env l.level) (places_of 128 (has l.fn.roots) (long_at l.env) m)
