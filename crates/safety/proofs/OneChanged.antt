-- The judge's environment with one variable changed that keeps its links and its level.
use Prim.Native.Nat.{ℕ, ◌≤◌}
use native.Mathlib.Omega.{arith}
use native.Mathlib.Decide.{ℕ_discrete}
use mathlib.Core.Path.{◌≡◌, refl, sym, ap, ◌∙◌, subst}
use mathlib.Core.Logic.{◌≢◌}
use mathlib.Core.Option.{Option}
use Rattle.statics.specs.Environment.{Variable, Slot, used, live, Environment, Ty, update}
use Rattle.statics.specs.Uses.{Unfinished}
use Rattle.statics.proofs.Slots.{used≢live, update_same, update_other}
use Rattle.dynamics.specs.Values.{Value}
use Rattle.dynamics.specs.Store.{State}
use Rattle.safety.proofs.Memory.{Name, var}
use Rattle.safety.proofs.Ghost as Gh
use Rattle.safety.proofs.Known.{Known}
use Rattle.safety.proofs.Covering.{Covered, covers, live_covers}
use Rattle.safety.proofs.Invariant.{Member, Invariant}

module _ {nv : ℕ} {ns : Unfinished} {Γ : Environment} {o : Option Ty} {lv : ℕ} {s : State} {v : Value} (I : Invariant nv ns Γ o lv s v) where
  module _ (x : ℕ) (X N : Variable) (eX : Γ x ≡ live X) (lN : N.level ≡ X.level) (cN : N.chain ≡ X.chain) where
    pub levels_update : (y : ℕ) (q : Variable) → update Γ x (live N) y ≡ live q → (k : Variable) × (Γ y ≡ live k) × (k.level ≡ q.level)
    levels_update y q e = go (ℕ_discrete y x)
      where
        go : Dec (y ≡ x) → (k : Variable) × (Γ y ≡ live k) × (k.level ≡ q.level)
        go (yes h) =
            let f : live N ≡ live q = sym (update_same Γ x (live N)) ∙ ap (λ (z : ℕ). update Γ x (live N) z) (sym h) ∙ e in
            let z : N ≡ q = cc in
            (X, rw h eX, sym lN ∙ ap (λ (k : Variable). k.level) z)
        go (no h) = (q, sym (update_other Γ x (live N) y h) ∙ e, refl)

    pub deep_update : (y : ℕ) (q : Variable) → update Γ x (live N) y ≡ live q → q.level ≤ lv
    deep_update y q e = let L = levels_update y q e in omega (arith, L.2, I.deep y L.0 L.1)

    pub scope_update : (y : ℕ) (q : Variable) → update Γ x (live N) y ≡ live q
        → (lv ≤ q.level → Member y s.opened) × (Member y s.opened → lv ≤ q.level)
    scope_update y q e =
        let L = levels_update y q e in
        let S = I.scope y L.0 L.1 in
        (λ h. S.0 (omega (arith, L.2)), λ h. let z = S.1 h in omega (arith, L.2))

    pub stay_update : (y : ℕ) → Γ y ≡ used → update Γ x (live N) y ≡ used
    stay_update y e = update_other Γ x (live N) y (λ h. used≢live (sym e ∙ ap Γ h ∙ eX)) ∙ e

    pub lives_update : (y : ℕ) (k : Variable) → Γ y ≡ live k
        → (q : Variable) × (update Γ x (live N) y ≡ live q) × (q.chain ≡ k.chain) × (q.level ≡ k.level)
    lives_update y k e = go (ℕ_discrete y x)
      where
        go : Dec (y ≡ x) → (q : Variable) × (update Γ x (live N) y ≡ live q) × (q.chain ≡ k.chain) × (q.level ≡ k.level)
        go (yes h) =
            let z : X ≡ k = (let a : Γ x ≡ live k = ap Γ (sym h) ∙ e in cc) in
            (N, ap (λ (z : ℕ). update Γ x (live N) z) h ∙ update_same Γ x (live N), cN ∙ ap (λ (u : Variable). u.chain) z, lN ∙ ap (λ (u : Variable). u.level) z)
        go (no h) = (k, update_other Γ x (live N) y h ∙ e, refl, refl)

    -- The proof's environment with the change.
    pub vars_update : (Θ' : Name → Gh.Slot) (n : Gh.Variable) → Θ' (var x) ≡ Gh.live n → Covered (Known ns Θ' (var x)) n N
        → ((y : ℕ) → y ≢ x → covers (Known ns Θ' (var y)) (Θ' (var y)) (Γ y)) → (y : ℕ) → covers (Known ns Θ' (var y)) (Θ' (var y)) (update Γ x (live N) y)
    vars_update Θ' n en c h y = go (ℕ_discrete y x)
      where
        go : Dec (y ≡ x) → covers (Known ns Θ' (var y)) (Θ' (var y)) (update Γ x (live N) y)
        go (yes k) = live_covers (Θ' (var y)) (update Γ x (live N) y) n N (ap (λ (z : ℕ). Θ' (var z)) k ∙ en) (ap (λ (z : ℕ). update Γ x (live N) z) k ∙ update_same Γ x (live N)) (subst (λ (z : ℕ). Covered (Known ns Θ' (var z)) n N) (sym k) c)
        go (no k) = subst (λ (sl : Slot). covers (Known ns Θ' (var y)) (Θ' (var y)) sl) (sym (update_other Γ x (live N) y k)) (h y k)
