-- Equations that cannot hold.
use Prim.Native.Nat.{ℕ}
use native.Mathlib.Omega.{arith}
use mathlib.Core.Path.{◌≡◌}
use Rattle.dynamics.specs.Values.{Value, Row, closed, open_with}

pub open≢closed : {r : Row} {v : Value} → r ≡ open_with v → r ≡ closed → ⊥
open≢closed e f = let z : ◌≡◌ {A = ℕ} 0 1 = cc in omega arith
