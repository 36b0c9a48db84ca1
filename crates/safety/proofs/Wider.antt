-- The judge may know less than there is to know: the invariant holds with every environment that stands for more. So it holds after a choice,
-- whichever block ran, and after a write that may have landed in several variables.
use Prim.Native.Nat.{ℕ, ◌≤◌, ◌<◌}
use native.Mathlib.Omega.{arith}
use native.Mathlib.Decide.{dec_le}
use mathlib.Core.Path.{◌≡◌, refl, sym, ap, ◌∙◌, subst}
use mathlib.Core.Logic.{◌≢◌}
use mathlib.Core.Option.{Option, none}
use Rattle.statics.specs.Links.{leading_boxes}
use Rattle.statics.specs.Environment.{Variable, Slot, free, used, live, Environment, Ty}
use Rattle.statics.specs.Uses.{Unfinished}
use Rattle.statics.proofs.Slots.{free≢live, used≢live}
use Rattle.dynamics.specs.Values.{Value, Row, closed}
use Rattle.dynamics.specs.Store.{State, Ran}
use Rattle.dynamics.specs.Run.{Outcome}
use Rattle.safety.proofs.Memory.{Name, in_flight, in_drop, var, Memory}
use Rattle.safety.proofs.Lifted.{lift}
use Rattle.safety.proofs.Ghost as Gh
use Rattle.safety.proofs.Typing.{Fits, Typed}
use Rattle.safety.proofs.Fading.{faded, without, without_off, without_on, without_typed}
use Rattle.safety.proofs.Known.{Known, without_known}
use Rattle.safety.proofs.Covering.{covers, covered_live, covered_none, vac_covers, live_covers, covered_less, covers_less}
use Rattle.safety.proofs.Widening.{Wide, covered_wide, covered_faded}
use Rattle.safety.proofs.Invariant.{Member, flight_slot, flight_row, nobody, Invariant}
use Rattle.safety.proofs.Progress.{Progress}

-- The same variables are in scope, and each stands for at least as much in M.
pub record Wider (Γ M : Environment) : Type 0 where
  pub up : (x : ℕ) (v : Variable) → M x ≡ live v → (u : Variable) × (Γ x ≡ live u) × (Wide u v)
  pub down : (x : ℕ) (u : Variable) → Γ x ≡ live u → (v : Variable) × (M x ≡ live v)

-- The value in flight likewise.
pub record WiderValue (o o' : Option Ty) (lv : ℕ) : Type 0 where
  pub row : (v : Value) → flight_row o v ≡ flight_row o' v
  pub flight : (g : Gh.Slot) → ((q : Gh.Variable) → g ≡ Gh.live q → Fits q.chain q.borrow) → covers (Unit {0}) g (flight_slot o lv) → covers (Unit {0}) g (flight_slot o' lv)
  pub no_value : o' ≡ none → o ≡ none

pub value_same : (o : Option Ty) (lv : ℕ) → WiderValue o o lv
value_same o lv = record { row = λ v. refl; flight = λ g f c. c; no_value = λ e. e }

-- The judge counts it as moved away, with its borrow link.
Lost : Slot → Type 0
Lost free = ⊥
Lost used = ⊥
Lost (live v) = v.moved_from ≤ leading_boxes v.chain

lost_dec : (sl : Slot) → Dec (Lost sl)
unfolding Lost
lost_dec free = no (λ h. h)
lost_dec used = no (λ h. h)
lost_dec (live v) = dec_le v.moved_from (leading_boxes v.chain)

lost_is : (sl : Slot) (v : Variable) → sl ≡ live v → Lost sl → v.moved_from ≤ leading_boxes v.chain
unfolding Lost
lost_is sl v e h = rw e at h

not_lost : (sl : Slot) (v : Variable) → sl ≡ live v → (Lost sl → ⊥) → leading_boxes v.chain < v.moved_from
unfolding Lost
not_lost sl v e h = go (dec_le v.moved_from (leading_boxes v.chain))
  where
    go : Dec (v.moved_from ≤ leading_boxes v.chain) → leading_boxes v.chain < v.moved_from
    go (yes k) = absurd (h (rw e k))
    go (no k) = omega arith

LostName : Environment → Name → Type 0
LostName M in_flight = ⊥
LostName M in_drop = ⊥
LostName M (var x) = Lost (M x)

lost_name : (M : Environment) (z : Name) → Dec (LostName M z)
unfolding LostName
lost_name M in_flight = no (λ h. h)
lost_name M in_drop = no (λ h. h)
lost_name M (var x) = lost_dec (M x)

module _ {nv : ℕ} {ns : Unfinished} {Γ M : Environment} {o o' : Option Ty} {lv : ℕ} {s : State} {v : Value} (I : Invariant nv ns Γ o lv s v) (W : Wider Γ M) (V₀ : WiderValue o o' lv) where
  -- What is counted as moved away forgets what it borrows.
  Θ' : Name → Gh.Slot
  Θ' = without I.Θ (LostName M) (lost_name M)

  same : (z : Name) → (LostName M z → ⊥) → Θ' z ≡ I.Θ z
  unfolding Θ'
  same z h = without_off I.Θ (LostName M) (lost_name M) z h

  typed' : Typed nv nobody Θ' I.H I.ρ I.rank
  unfolding Θ'
  typed' = without_typed I.typed (LostName M) (lost_name M)

  -- Nothing more is held.
  known : {z : Name} → Known ns Θ' z → Known ns I.Θ z
  unfolding Θ'
  known = without_known I.typed (LostName M) (lost_name M)

  in_scope : (x : ℕ) (v : Variable) → M x ≡ live v → covers (Known ns Θ' (var x)) (Θ' (var x)) (live v)
  unfolding Θ' LostName
  in_scope x v e =
      let u = W.up x v e in
      let C = covered_live (I.Θ (var x)) (Γ x) u.0 (I.vars x) u.1 in
      elim (lost_dec (M x)) [
        | yes h ↦ live_covers (Θ' (var x)) (live v) (faded C.0) v (without_on I.Θ (LostName M) (lost_name M) (var x) C.0 h C.1) refl (covered_less known (covered_faded C.2 u.2 (lost_is (M x) v e h)))
        | no h ↦ live_covers (Θ' (var x)) (live v) C.0 v (same (var x) h ∙ C.1) refl (covered_less known (covered_wide C.2 u.2 (I.typed.at (var x) C.0 C.1).fits (not_lost (M x) v e h)))
      ]

  vars' : (x : ℕ) → covers (Known ns Θ' (var x)) (Θ' (var x)) (M x)
  unfolding LostName Lost
  vars' x = go (M x) refl
    where
      out : (sl : Slot) → M x ≡ sl → ((v : Variable) → sl ≢ live v) → (Lost sl → ⊥) → covers (Known ns Θ' (var x)) (Θ' (var x)) sl
      out sl e n h = vac_covers (Θ' (var x)) sl (same (var x) (λ k. h (rw e at k)) ∙ covered_none (I.Θ (var x)) (Γ x) (I.vars x) (λ u k. let d = W.down x u k in n d.0 (sym e ∙ d.1))) n

      go : (sl : Slot) → M x ≡ sl → covers (Known ns Θ' (var x)) (Θ' (var x)) sl
      go free e = out free e (λ v k. free≢live k) (λ h. h)
      go used e = out used e (λ v k. used≢live k) (λ h. h)
      go (live v) e = in_scope x v e

  pub wider_invariant : Invariant nv ns M o' lv s v
  unfolding LostName
  wider_invariant = record {
    Θ = Θ';
    H = I.H;
    ρ = I.ρ;
    rank = I.rank;
    mem = subst (λ (r : Row). Memory I.H (lift s.store r closed) s.taken I.ρ) (V₀.row v) I.mem;
    typed = typed';
    vars = vars';
    flight = V₀.flight (Θ' in_flight) (λ q e. (typed'.at in_flight q e).fits) (covers_less (Θ' in_flight) (I.Θ in_flight) (flight_slot o lv) (λ u. u) (same in_flight (λ h. h)) I.flight);
    idle = same in_drop (λ h. h) ∙ I.idle;
    nothing = λ e. I.nothing (V₀.no_value e);
    deep = λ x q e. let u = W.up x q e in subst (λ (k : ℕ). k ≤ lv) u.2.level (I.deep x u.0 u.1);
    scope = λ x q e. let u = W.up x q e in subst (λ (k : ℕ). (lv ≤ k → Member x s.opened) × (Member x s.opened → lv ≤ k)) u.2.level (I.scope x u.0 u.1);
  }

-- A term's progress likewise.
pub widened : {nv : ℕ} {ns : Unfinished} {Γ Γ₁ M : Environment} {o o' : Option Ty} {lv : ℕ} {r : Ran Outcome} → Progress nv ns Γ Γ₁ o lv r → Wider Γ₁ M
    → WiderValue o o' lv → ((x : ℕ) → Γ x ≡ used → M x ≡ used) → Progress nv ns Γ M o' lv r
widened {nv} {ns} {Γ} {Γ₁} {M} {o} {o'} {lv} {r} R W V₀ us = record {
  s = R.s;
  v = R.v;
  ran = R.ran;
  inv = wider_invariant R.inv W V₀;
  keep = λ x q e l.
      let u = W.up x q e in
      let k = R.keep x u.0 u.1 (subst (λ (y : ℕ). y < lv) (sym u.2.level) l) in
      (k.0, k.1, k.2 ∙ u.2.level);
  stay = us;
  lives = λ x k e.
      let q = R.lives x k e in
      let d = W.down x q.0 q.1 in
      let u = W.up x d.0 d.1 in
      let z : u.0 ≡ q.0 = (let a : live u.0 ≡ live q.0 = sym u.1 ∙ q.1 in cc) in
      (d.0, d.1, sym u.2.chain ∙ ap (λ (y : Variable). y.chain) z ∙ q.2, sym u.2.level ∙ ap (λ (y : Variable). y.level) z ∙ q.3);
}
