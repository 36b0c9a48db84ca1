-- The state of one variable number: changed, left, carried into the second block of a choice, joined.
use Prim.Native.Nat.{ℕ, ◌≤◌}
use native.Mathlib.Omega.{arith}
use mathlib.Core.Path.{◌≡◌, refl, sym, subst}
use mathlib.Core.Logic.{◌≢◌}
use mathlib.Core.Bool.{Bool, true, false, false≢true}
use lib.Dec.{ltb, eqb}
use borrow.Author.Tests.{eqb-true, eq-eqb, ltb-true, ltb-false}
use Rattle.syntax.specs.Result.{pick}
use Rattle.statics.specs.Places.{unite}
use Rattle.statics.specs.Environment.{places, borrow_end, Variable, Slot, free, used, live, Environment, update, borrow_of, leave_slot}
use Rattle.statics.specs.Choice.{carried_slot, moved_from_of, earlier, joined_slot}

pub free≢live : {v : Variable} → free ≡ live v → ⊥
free≢live e = let z : ◌≡◌ {A = ℕ} 0 1 = cc in omega arith

pub used≢live : {v : Variable} → used ≡ live v → ⊥
used≢live e = let z : ◌≡◌ {A = ℕ} 0 1 = cc in omega arith

pub free≢used : free ≡ used → ⊥
free≢used e = let z : ◌≡◌ {A = ℕ} 0 1 = cc in omega arith

-- ---- one number changed

pub update_same : (Γ : Environment) (x : ℕ) (s : Slot) → update Γ x s x ≡ s
unfolding update
update_same Γ x s = go (eqb x x) (eq-eqb x x refl)
  where
    go : (b : Bool) → b ≡ true → pick b s (Γ x) ≡ s
    go true e = refl
    go false e = absurd (false≢true e)

pub update_other : (Γ : Environment) (x : ℕ) (s : Slot) (y : ℕ) → y ≢ x → update Γ x s y ≡ Γ y
unfolding update
update_other Γ x s y n = go (eqb x y) refl
  where
    go : (b : Bool) → eqb x y ≡ b → pick b s (Γ y) ≡ Γ y
    go true e = absurd (n (sym (eqb-true x y e)))
    go false e = refl

-- ---- a block left

pub leave_live : (level : ℕ) (sl : Slot) (q : Variable) → leave_slot level sl ≡ live q → (sl ≡ live q) × (q.level ≤ level)
unfolding leave_slot
leave_live level free q h = absurd (free≢live h)
leave_live level used q h = absurd (used≢live h)
leave_live level (live k) q h = go (ltb level k.level) refl h
  where
    go : (b : Bool) → ltb level k.level ≡ b → pick b used (live k) ≡ live q → (live k ≡ live q) × (q.level ≤ level)
    go true e g = absurd (used≢live g)
    go false e g = let z : k ≡ q = cc in (g, rw (← z) (ltb-false level k.level e))

pub leave_keeps : (level : ℕ) (sl : Slot) (u : Variable) → sl ≡ live u → u.level ≤ level → leave_slot level sl ≡ live u
unfolding leave_slot
leave_keeps level sl u e h = subst (λ (k : Slot). leave_slot level k ≡ live u) (sym e) (go (ltb level u.level) refl)
  where
    go : (b : Bool) → ltb level u.level ≡ b → pick b used (live u) ≡ live u
    go true k = absurd (let z = ltb-true level u.level k in omega arith)
    go false k = refl

pub leave_used : (level : ℕ) (sl : Slot) → sl ≡ used → leave_slot level sl ≡ used
unfolding leave_slot
leave_used level sl e = rw e refl

-- ---- a choice

pub carried_live : (a b : Slot) (v : Variable) → carried_slot a b ≡ live v → a ≡ live v
carried_live free free v e = absurd (free≢live e)
carried_live free used v e = absurd (used≢live e)
carried_live free (live u) v e = absurd (used≢live e)
carried_live used b v e = absurd (used≢live e)
carried_live (live u) b v e = e

pub live_carried : (a b : Slot) (v : Variable) → a ≡ live v → carried_slot a b ≡ live v
live_carried free b v e = absurd (free≢live e)
live_carried used b v e = absurd (used≢live e)
live_carried (live u) b v e = e

-- A variable in scope after either block was so before, with its links and level.
abbrev pub Joined : Slot → Slot → Slot → Variable → Type 0
Joined a b c v = (k : Variable) × (a ≡ live k) × (k.chain ≡ v.chain) × (k.level ≡ v.level) × (v.borrow ≡ borrow_end v.chain (unite (places (borrow_of b)) (places (borrow_of c))))

pub joined_live : (a b c : Slot) (v : Variable) → joined_slot a b c ≡ live v → Joined a b c v
joined_live free b c v e = let z = carried_live (carried_slot free b) c v e in let y = carried_live free b v z in absurd (free≢live y)
joined_live used b c v e = absurd (used≢live e)
joined_live (live k) b c v e =
    let z : record { chain = k.chain; moved_from = earlier (moved_from_of b) (moved_from_of c); borrow = borrow_end k.chain (unite (places (borrow_of b)) (places (borrow_of c))); level = k.level } ≡ v = cc in
    subst (λ (v : Variable). Joined (live k) b c v) z (k, refl, refl, refl, refl)
