-- The readings before i stand in their places.
use Prim.Native.Nat.{ℕ, ◌*◌, ◌<◌}
use mathlib.Core.Path.{◌≡◌}
use lib.IntN.{pos}
use lib.ListN.{length, get_or}
use Rattle.room.specs.Calling.{reading_at}
use Rattle.program.proofs.report.readings_of.Given as goal

abbrev pub invariant-loop-i : goal.invariant-loop-i
invariant-loop-i l = (length l.readings ≡ 8) × ((k : ℕ) → k < l.i → get_or l.readings k (pos 0) ≡ reading_at l.input (4 * k))
