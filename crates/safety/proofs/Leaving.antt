-- The variables that leave scope at the end of a block.
use Prim.Native.Nat.{ℕ, ◌<◌}
use native.Mathlib.Omega.{arith}
use native.Mathlib.Decide.{dec_lt}
use mathlib.Core.Path.{◌≡◌, refl}
use borrow.Author.Tests.{lt-ltb, le-ltb}
use Rattle.statics.specs.Environment.{Variable, Slot, free, used, live, Environment, leave_slot}
use Rattle.safety.proofs.Memory.{Name, in_flight, in_drop, var}

-- It is in scope, and lives deeper than the level.
abbrev pub late : ℕ → Slot → Type 0
late lv free = ⊥
late lv used = ⊥
late lv (live q) = lv < q.level

pub late_dec : (lv : ℕ) (sl : Slot) → Dec (late lv sl)
late_dec lv free = no (λ h. h)
late_dec lv used = no (λ h. h)
late_dec lv (live q) = dec_lt lv q.level

pub leave_same : (lv : ℕ) (sl : Slot) → (late lv sl → ⊥) → leave_slot lv sl ≡ sl
unfolding leave_slot
leave_same lv free h = refl
leave_same lv used h = refl
leave_same lv (live q) h = rw (le-ltb lv q.level (omega arith))

pub leave_late : (lv : ℕ) (sl : Slot) → late lv sl → leave_slot lv sl ≡ used
unfolding leave_slot
leave_late lv free h = absurd h
leave_late lv used h = refl
leave_late lv (live q) h = rw (lt-ltb lv q.level h)

-- A name that is such a variable.
abbrev pub late_name : Environment → ℕ → Name → Type 0
late_name Γ lv in_flight = ⊥
late_name Γ lv in_drop = ⊥
late_name Γ lv (var x) = late lv (Γ x)

pub late_name_law : (Γ : Environment) (lv : ℕ) (z : Name) → Dec (late_name Γ lv z)
late_name_law Γ lv in_flight = no (λ h. h)
late_name_law Γ lv in_drop = no (λ h. h)
late_name_law Γ lv (var x) = late_dec lv (Γ x)

pub late_level : (lv : ℕ) (sl : Slot) (q : Variable) → sl ≡ live q → late lv sl → lv < q.level
late_level lv free q e h = absurd h
late_level lv used q e h = absurd h
late_level lv (live k) q e h = let z : k ≡ q = cc in rw z at h

pub late_var : (lv : ℕ) (sl : Slot) → late lv sl → (q : Variable) × (sl ≡ live q) × (lv < q.level)
late_var lv free h = absurd h
late_var lv used h = absurd h
late_var lv (live k) h = (k, refl, h)
