use Prim.Native.Nat.{ℕ, ◌-◌, ◌≤◌}
use mathlib.Core.Path.{◌≡◌}
use Rattle.variables.specs.Masks.{has}
use Rattle.uses.specs.RowUses.{named_with}
use Rattle.uses.proofs.script.Around.all_named.Given as goal

abbrev pub invariant-loop-row : goal.invariant-loop-row
invariant-loop-row l = ((x : ℕ) → has l.all x ≡ named_with l.script.rows.now l.self.start (l.row - l.self.start) (has l.self.named) x) × (l.row - l.self.start ≤ l.self.end - l.self.start)
