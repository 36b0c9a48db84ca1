-- The names of which the proof must know what they hold: those named later, the value in flight, and what such a name holds.
use Prim.Native.Nat.{ℕ}
use mathlib.Core.Path.{◌≡◌, refl, sym, ◌∙◌, subst}
use mathlib.Core.Bool.{true}
use Rattle.syntax.specs.Script.{Place}
use Rattle.statics.specs.Uses.{Unfinished, named_later}
use Rattle.safety.proofs.Memory.{Name, in_flight, var, var≢flight, Spot, Content}
use Rattle.safety.proofs.Ghost.{Variable, Slot}
use Rattle.safety.proofs.Typing.{Reach, here, hop, Holds, Typed}
use Rattle.safety.proofs.Fading.{without, without_holds}

-- By what is held in the proof's own environment, and not by the judge's places: after a choice a variable may be in use by these although
-- its borrow no longer holds in the block that ran.
pub data Known (ns : Unfinished) (Θ : Name → Slot) : Name → Type 0 where
  by_name : {x : ℕ} → named_later ns x ≡ true → Known ns Θ (var x)
  by_flight : Known ns Θ in_flight
  by_holder : {y : Name} (Q : Variable) (p : Place) → Known ns Θ y → Holds Θ y Q p → Known ns Θ (var p.root)

-- No other variable is known: a set that has the variables named later, and what a name holds if it has that name, has every known variable.
pub known_least : {ns : Unfinished} {Θ : Name → Slot} (P : ℕ → Type 0) → ((x : ℕ) → named_later ns x ≡ true → P x)
    → ((y : Name) (Q : Variable) (p : Place) → Holds Θ y Q p → ((x : ℕ) → y ≡ var x → P x) → P p.root) → (x : ℕ) → Known ns Θ (var x) → P x
known_least {ns} {Θ} P pb ps x k = go k x refl
  where
    go : {z : Name} → Known ns Θ z → (x : ℕ) → z ≡ var x → P x
    go (by_name {x = y} e) x q = let z : y ≡ x = cc in subst P z (pb y e)
    go by_flight x q = absurd (var≢flight (sym q))
    go (by_holder {y = y} Q p k K) x q = let z : p.root ≡ x = cc in subst P z (ps y Q p K (λ w f. go k w f))

-- Where all that known names now hold was known before, no more is known.
pub known_less : {ns ns' : Unfinished} {Θ Θ' : Name → Slot} → ((x : ℕ) → named_later ns' x ≡ true → named_later ns x ≡ true)
    → ((y : Name) (Q : Variable) (p : Place) → Known ns Θ y → Holds Θ' y Q p → Known ns Θ (var p.root)) → {z : Name} → Known ns' Θ' z → Known ns Θ z
known_less f g (by_name {x = x} e) = by_name (f x e)
known_less f g by_flight = by_flight
known_less f g (by_holder {y = y} Q p k K) = g y Q p (known_less f g k) K

-- The same where only some names have changed.
module _ {ns : Unfinished} {Θ Θ' : Name → Slot} (X : Name → Type 0) (xDec : (z : Name) → Dec (X z)) (same : (z : Name) → (X z → ⊥) → Θ' z ≡ Θ z)
    (new : (z : Name) (Q : Variable) (p : Place) → X z → Holds Θ' z Q p → Known ns Θ (var p.root)) where
  pub known_off : {z : Name} → Known ns Θ' z → Known ns Θ z
  known_off = known_less (λ x e. e) (λ y Q p k K. elim (xDec y) [ yes h ↦ new y Q p h K | no h ↦ by_holder Q p k (record { is = sym (same y h) ∙ K.is; whole = K.whole; at = K.at }) ])

-- Where some names have forgotten what they borrow, no more is known.
pub without_known : {nv : ℕ} {G : Name → Type 0} {Θ : Name → Slot} {H : Name → Content} {ρ : Name → ℕ → Spot} {rank : Name → ℕ} → Typed nv G Θ H ρ rank
    → (X : Name → Type 0) (xDec : (z : Name) → Dec (X z)) {ns : Unfinished} {z : Name} → Known ns (without Θ X xDec) z → Known ns Θ z
without_known T X xDec = known_less (λ x e. e) (λ y Q p k K. by_holder Q p k (without_holds T X xDec y Q p K))

-- What is reached from a known name is known.
pub known_along : {ns : Unfinished} {Θ : Name → Slot} {w : Name} {d : ℕ} {x : Name} {r : ℕ} → Reach Θ w d x r → Known ns Θ x → Known ns Θ w
known_along (here Q e a b) k = k
known_along (hop Q p e f a b D) k = known_along D (by_holder Q p k (record { is = e; whole = a; at = f }))
