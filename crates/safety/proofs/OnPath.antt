-- The variables that a path visits, and who holds them.
use Prim.Native.Nat.{ℕ, suc, ◌+◌, ◌-◌, ◌≤◌, ◌<◌}
use native.Mathlib.Omega.{arith}
use mathlib.Core.Path.{◌≡◌, refl, sym, ap, ◌∙◌}
use mathlib.Core.Logic.{◌≢◌, ◌⊎◌, inl, inr}
use mathlib.Core.Bool.{true}
use mathlib.Core.Option.{some}
use mathlib.Core.List.{List}
use lib.ListN.{take, drop}
use Rattle.syntax.specs.Script.{Place}
use Rattle.statics.specs.Links.{Link, no_shared}
use Rattle.statics.proofs.LinkChains.{drop_add}
use Rattle.safety.proofs.Memory.{Name, var, Spot, Content, name_dec}
use Rattle.safety.proofs.Ghost.{Variable, Slot, live}
use Rattle.safety.proofs.Typing.{borrowed, is_exclusive, boxes, Reach, here, hop, Holds, Typed}
use Rattle.safety.proofs.Chains.{exclusive_passed, pure_rest, pure_both}

-- The variables that a path visits.
abbrev pub On : {Γ : Name → Slot} {w : Name} {d : ℕ} {x : Name} {r : ℕ} → Reach Γ w d x r → Name → Type 0
On {w} (here Q e a b) z = z ≡ w
On {x} (hop Q p e f a b D) z = (z ≡ x) ⊎ On D z

pub on_dec : {Γ : Name → Slot} {w : Name} {d : ℕ} {x : Name} {r : ℕ} (D : Reach Γ w d x r) (z : Name) → Dec (On D z)
on_dec {w} (here Q e a b) z = name_dec z w
on_dec {x} (hop Q p e f a b D) z = go (name_dec z x) (on_dec D z)
  where
    go : Dec (z ≡ x) → Dec (On D z) → Dec ((z ≡ x) ⊎ On D z)
    go (yes h) k = yes (inl h)
    go (no h) (yes k) = yes (inr k)
    go (no h) (no k) = no (λ u. elim u [ inl a ↦ h a | inr b ↦ k b ])

pub on_end : {Γ : Name → Slot} {w : Name} {d : ℕ} {x : Name} {r : ℕ} (D : Reach Γ w d x r) → On D w
on_end (here Q e a b) = refl
on_end (hop Q p e f a b D) = inr (on_end D)

on_start : {Γ : Name → Slot} {w : Name} {d : ℕ} {x : Name} {r : ℕ} (D : Reach Γ w d x r) → On D x
on_start (here Q e a b) = refl
on_start (hop Q p e f a b D) = inl refl

-- The names on a path from a variable are variables.
pub on_var : {Γ : Name → Slot} {w : Name} {d : ℕ} {x : Name} {r : ℕ} (D : Reach Γ w d x r) (n : ℕ) → x ≡ var n → (z : Name) → On D z
    → (k : ℕ) × (z ≡ var k)
on_var (here Q e a b) n q z h = (n, h ∙ q)
on_var (hop Q p e f a b D) n q z (inl h) = (n, h ∙ q)
on_var (hop Q p e f a b D) n q z (inr h) = on_var D p.root refl z h

module _ {nv : ℕ} {G : Name → Type 0} {Γ : Name → Slot} {H : Name → Content} {ρ : Name → ℕ → Spot} {rank : Name → ℕ} (T : Typed nv G Γ H ρ rank) where
  -- What stands at the place's end has the rest of the root's links.
  pub agreed : {w : Name} {d : ℕ} {x : Name} {r : ℕ} (D : Reach Γ w d x r) (X W : Variable) → Γ x ≡ live X → Γ w ≡ live W
      → drop r X.chain ≡ drop d W.chain
  agreed {d} (here Q e a b) X W h k = let z : X ≡ W = cc in rw z refl
  agreed {w} {d} {x} {r} (hop Q p e f a b D) X W h k =
      let z : Q ≡ X = cc in
      let K = (T.at x Q e).refs a p f in
      let I = agreed D K.W W K.is k in
      let n : r ≡ suc (boxes Q) + (r - suc (boxes Q)) = omega arith in
      ap (λ (u : Variable). drop r u.chain) (sym z) ∙ ap (λ (u : ℕ). drop u Q.chain) n ∙ drop_add (suc (boxes Q)) (r - suc (boxes Q)) Q.chain
      ∙ ap (λ (u : List Link). drop (r - suc (boxes Q)) u) K.agree ∙ sym (drop_add p.follows (r - suc (boxes Q)) K.W.chain) ∙ I

  pub ranked : {w : Name} {d : ℕ} {x : Name} {r : ℕ} → Reach Γ w d x r → rank w ≤ rank x
  ranked (here Q e a b) = omega arith
  ranked {w} {d} {x} (hop Q p e f a b D) = let z = ranked D in omega (arith, ((T.at x Q e).refs a p f).lower)

  -- Along a path without shared links, every further variable is held exclusively by the one before it.
  unfoldable pub Pred : {w : Name} {d : ℕ} {x : Name} {r : ℕ} → Reach Γ w d x r → Name → Type 0
  Pred D z = (h : Name) × (Q : Variable) × (p : Place) × (Holds Γ h Q p) × (On D h) × (var p.root ≡ z) × (is_exclusive Q.borrow ≡ true)

  pure_hop : (x : Name) (r : ℕ) (Q : Variable) (p : Place) (e : Γ x ≡ live Q) (f : borrowed Q.borrow ≡ some p) (a : boxes Q < Q.moved_from)
      → boxes Q < r → no_shared (take r Q.chain) ≡ true
      → (is_exclusive Q.borrow ≡ true) × (no_shared (take (p.follows + (r - suc (boxes Q))) ((T.at x Q e).refs a p f).W.chain) ≡ true)
  pure_hop x r Q p e f a b n =
      let K = (T.at x Q e).refs a p f in
      let x1 = exclusive_passed Q.chain Q.borrow p r (T.at x Q e).fits f b n in
      let m : r ≡ suc (boxes Q) + (r - suc (boxes Q)) = omega arith in
      let x2 = pure_rest (suc (boxes Q)) (r - suc (boxes Q)) Q.chain (rw (← m) n) in
      (x1, pure_both p.follows (r - suc (boxes Q)) K.W.chain (K.unshared x1) (rw (← K.agree) x2))

  pub pred : {w : Name} {d : ℕ} {x : Name} {r : ℕ} (D : Reach Γ w d x r) (X : Variable) → Γ x ≡ live X → no_shared (take r X.chain) ≡ true
      → (z : Name) → On D z → (z ≡ x) ⊎ Pred D z
  unfolding Pred
  pred (here Q e a b) X h n z o = inl o
  pred (hop Q p e f a b D) X h n z (inl o) = inl o
  pred {w} {d} {x} {r} (hop Q p e f a b D) X h n z (inr o) =
      let q : X ≡ Q = cc in
      let P = pure_hop x r Q p e f a b (rw (← q) n) in
      go P.0 (pred D ((T.at x Q e).refs a p f).W ((T.at x Q e).refs a p f).is P.1 z o)
    where
      go : is_exclusive Q.borrow ≡ true
          → (z ≡ var p.root) ⊎ ((h : Name) × (Q : Variable) × (p : Place) × (Holds Γ h Q p) × (On D h) × (var p.root ≡ z) × (is_exclusive Q.borrow ≡ true))
          → (z ≡ x) ⊎ ((h : Name) × (Q : Variable) × (p : Place) × (Holds Γ h Q p) × ((h ≡ x) ⊎ On D h) × (var p.root ≡ z) × (is_exclusive Q.borrow ≡ true))
      go x1 (inl u) = inr (x, Q, p, record { is = e; whole = a; at = f }, inl refl, sym u, x1)
      go x1 (inr u) = inr (u.0, u.1, u.2, u.3, inr u.4, u.5, u.6)

  -- A visited variable that is not the last holds the next.
  pub next_on : {w : Name} {d : ℕ} {x : Name} {r : ℕ} (D : Reach Γ w d x r) (z : Name) → On D z → z ≢ w
      → (Q : Variable) × (p : Place) × (n : ℕ) × (Holds Γ z Q p) × (Reach Γ w d (var p.root) (p.follows + n)) × (On D (var p.root))
  next_on (here Q e a b) z o h = absurd (h o)
  next_on {w} {d} {x} {r} (hop Q p e f a b D) z (inl o) h =
      (Q, p, r - suc (boxes Q), record { is = ap Γ o ∙ e; whole = a; at = f }, D, inr (on_start D))
  next_on (hop Q p e f a b D) z (inr o) h = let R = next_on D z o h in (R.0, R.1, R.2, R.3, R.4, inr R.5)
