use Prim.Native.Nat.{ℕ, ◌<◌}
use mathlib.Core.Path.{◌≡◌}
use lib.ListN.{length}
use Rattle.choices.specs.Kept.{kept_at, KeptAs}
use Rattle.choices.proofs.choice.keep.Given as goal

abbrev pub invariant-loop-x : goal.invariant-loop-x
invariant-loop-x l = (length l.kept ≡ length l.initial.kept) × ((y : ℕ) → y < l.x → KeptAs (kept_at l.kept y) l.env y)
