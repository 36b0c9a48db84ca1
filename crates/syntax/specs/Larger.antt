-- Larger sets of limits (LANGUAGE 7.7).
use Rattle.std.specs.Prelude.{◌≤◌}
use Rattle.syntax.specs.Limits.{Limits}

-- The set m is nowhere smaller than l.
pub record NoSmaller (l m : Limits) : Type 0 where
  pub terms : l.terms ≤ m.terms
  pub variables : l.variables ≤ m.variables
  pub boxes : l.boxes ≤ m.boxes
  pub levels : l.levels ≤ m.levels
