-- The typing layer: what an environment with one place for each borrow says of the memory layer.
use Prim.Native.Nat.{ℕ, suc, ◌+◌, ◌-◌, ◌≤◌, ◌<◌}
use mathlib.Core.Path.{◌≡◌, sym, ◌∙◌}
use mathlib.Core.Logic.{◌≢◌}
use mathlib.Core.Bool.{Bool, true, false}
use mathlib.Core.Option.{Option, none, some}
use mathlib.Core.List.{List, [], ◌∷◌}
use lib.ListN.{length, take, drop}
use Rattle.syntax.specs.Script.{Place}
use Rattle.statics.specs.Links.{Link, boxed, shared, exclusive, leading_boxes, no_shared}
use Rattle.dynamics.specs.Values.{Location, empty, num, reference}
use Rattle.safety.proofs.Memory.{Name, in_drop, var, Spot, Content, no_row, has}
use Rattle.safety.proofs.Lifted.{spot_of}
use Rattle.safety.proofs.Ghost.{Borrow, no_borrow, stale, shared_of, exclusive_of, Variable, Slot, live}

-- The place that a borrow end records.
abbrev pub borrowed : Borrow → Option Place
borrowed no_borrow = none
borrowed stale = none
borrowed (shared_of p) = some p
borrowed (exclusive_of p) = some p

abbrev pub is_exclusive : Borrow → Bool
is_exclusive no_borrow = false
is_exclusive stale = false
is_exclusive (shared_of p) = false
is_exclusive (exclusive_of p) = true

-- The borrow end is that of the chain's first borrow link.
abbrev pub Fits : List Link → Borrow → Type 0
Fits [] no_borrow = Unit {0}
Fits [] stale = ⊥
Fits [] (shared_of p) = ⊥
Fits [] (exclusive_of p) = ⊥
Fits (boxed ∷ ks) b = Fits ks b
Fits (shared ∷ ks) no_borrow = ⊥
Fits (shared ∷ ks) stale = Unit {0}
Fits (shared ∷ ks) (shared_of p) = Unit {0}
Fits (shared ∷ ks) (exclusive_of p) = ⊥
Fits (exclusive ∷ ks) no_borrow = ⊥
Fits (exclusive ∷ ks) stale = Unit {0}
Fits (exclusive ∷ ks) (shared_of p) = ⊥
Fits (exclusive ∷ ks) (exclusive_of p) = Unit {0}

-- Its boxes before the first borrow link: its own links are those up to this one.
abbrev pub boxes : Variable → ℕ
boxes Q = leading_boxes Q.chain

-- r follows from x lead to own link d of w. A derivation and not a search: it has no bound, and proofs go by induction on it.
pub data Reach (Γ : Name → Slot) (w : Name) (d : ℕ) : Name → ℕ → Type 0 where
  here : (Q : Variable) → Γ w ≡ live Q → d ≤ leading_boxes Q.chain → d ≤ Q.moved_from → Reach Γ w d w d
  hop : {x : Name} {r : ℕ} (Q : Variable) (p : Place) → Γ x ≡ live Q → borrowed Q.borrow ≡ some p → leading_boxes Q.chain < Q.moved_from
      → leading_boxes Q.chain < r
      → Reach Γ w d (var p.root) (p.follows + (r - suc (leading_boxes Q.chain))) → Reach Γ w d x r

-- What it says that x, whose state is Q, holds the place p.
pub record Ref (Γ : Name → Slot) (H : Name → Content) (ρ : Name → ℕ → Spot) (rank : Name → ℕ) (x : Name) (Q : Variable) (p : Place) : Type 0 where
  -- The root is in scope and whole.
  pub W : Variable
  pub is : Γ (var p.root) ≡ live W
  pub whole : boxes W < W.moved_from
  -- Ranks fall from holder to root, so that no path goes in a circle.
  pub lower : rank (var p.root) < rank x
  -- The links behind the borrow link are those behind the place.
  pub agree : drop (suc (boxes Q)) Q.chain ≡ drop p.follows W.chain
  pub long : p.follows ≤ length W.chain
  -- The root lives in the holder's block or in one around it (40), and a place borrowed exclusively passes no shared link (36).
  pub around : W.level ≤ Q.level
  pub unshared : is_exclusive Q.borrow ≡ true → no_shared (take p.follows W.chain) ≡ true
  -- x has a reference. If the place leads anywhere, it is to the row to which the place leads.
  pub l : Location
  pub shape : H x ≡ has (boxes Q) (reference l)
  pub row : (w : Name) (d : ℕ) → Reach Γ w d (var p.root) p.follows → spot_of l ≡ ρ w d

-- What it says that x is in scope with the state Q: a number or a reference at the end of its boxes, or empty from where it is moved away.
pub record At (Γ : Name → Slot) (H : Name → Content) (ρ : Name → ℕ → Spot) (rank : Name → ℕ) (x : Name) (Q : Variable) : Type 0 where
  pub fits : Fits Q.chain Q.borrow
  pub lost : Q.moved_from ≤ boxes Q → H x ≡ has Q.moved_from empty
  pub number : boxes Q < Q.moved_from → Q.borrow ≡ no_borrow → (n : ℕ) × (H x ≡ has (boxes Q) (num n))
  pub outdated : boxes Q < Q.moved_from → Q.borrow ≡ stale → (l : Location) × (H x ≡ has (boxes Q) (reference l))
  pub refs : boxes Q < Q.moved_from → (p : Place) → borrowed Q.borrow ≡ some p → Ref Γ H ρ rank x Q p

-- Holding (LANGUAGE 3.10): the first borrow link is not moved away.
pub record Holds (Γ : Name → Slot) (x : Name) (Q : Variable) (p : Place) : Type 0 where
  pub is : Γ x ≡ live Q
  pub whole : boxes Q < Q.moved_from
  pub at : borrowed Q.borrow ≡ some p

-- G are the names whose values are only to be dropped.
pub record Typed (nv : ℕ) (G : Name → Type 0) (Γ : Name → Slot) (H : Name → Content) (ρ : Name → ℕ → Spot) (rank : Name → ℕ) : Type 0 where
  pub at : (x : Name) (Q : Variable) → Γ x ≡ live Q → At Γ H ρ rank x Q
  pub bound : (x : ℕ) (Q : Variable) → Γ (var x) ≡ live Q → x < nv
  pub quiet : (Q : Variable) → Γ in_drop ≢ live Q
  -- Who holds an exclusive borrow of a root holds the root alone.
  pub exclusive : (x y : Name) (Q W : Variable) (p q : Place) → Holds Γ x Q p → Holds Γ y W q → p.root ≡ q.root → is_exclusive Q.borrow ≡ true
      → x ≡ y
  -- Who is not in scope has nothing, unless it is to be dropped.
  pub absent : (x : Name) → (G x → ⊥) → ((Q : Variable) → Γ x ≢ live Q) → H x ≡ no_row

-- ---- what is off a set X of names into which nobody outside X holds anything: nothing changes there

module _ (Γ Γ' : Name → Slot) (X : Name → Type 0)
    (same : (z : Name) → (X z → ⊥) → Γ' z ≡ Γ z)
    (shut : (x : Name) (Q : Variable) (p : Place) → Holds Γ x Q p → (X x → ⊥) → X (var p.root) → ⊥) where
  pub avoid_back : {w : Name} {d : ℕ} {y : Name} {r : ℕ} → Reach Γ' w d y r → (X y → ⊥) → (Reach Γ w d y r) × (X w → ⊥)
  avoid_back {w} (here Q e a b) h = (here Q (sym (same w h) ∙ e) a b, h)
  avoid_back {y} (hop Q p e q a b D) h =
      let e₀ : Γ y ≡ live Q = sym (same y h) ∙ e in
      let R = avoid_back D (shut y Q p (record { is = e₀; whole = a; at = q }) h) in
      (hop Q p e₀ q a b R.0, R.1)

  module _ (H H' : Name → Content) (ρ ρ' : Name → ℕ → Spot) (rank rank' : Name → ℕ)
      (same_h : (z : Name) → (X z → ⊥) → H' z ≡ H z)
      (sameρ : (z : Name) (i : ℕ) → (X z → ⊥) → ρ' z i ≡ ρ z i)
      (sameR : (z : Name) → (X z → ⊥) → rank' z ≡ rank z) where
    ref_off : (x : Name) (Q : Variable) (p : Place) → Γ x ≡ live Q → boxes Q < Q.moved_from → borrowed Q.borrow ≡ some p → (X x → ⊥)
        → Ref Γ H ρ rank x Q p → Ref Γ' H' ρ' rank' x Q p
    ref_off x Q p e a q h R =
        let n = shut x Q p (record { is = e; whole = a; at = q }) h in
        record {
          W = R.W;
          is = same (var p.root) n ∙ R.is;
          whole = R.whole;
          lower = rw (sameR x h, sameR (var p.root) n) R.lower;
          agree = R.agree;
          long = R.long;
          around = R.around;
          unshared = R.unshared;
          l = R.l;
          shape = same_h x h ∙ R.shape;
          row = λ w d D. let A = avoid_back D n in R.row w d A.0 ∙ sym (sameρ w d A.1);
        }

    pub at_off : (x : Name) (Q : Variable) → Γ x ≡ live Q → (X x → ⊥) → At Γ H ρ rank x Q → At Γ' H' ρ' rank' x Q
    at_off x Q e h A = record {
      fits = A.fits;
      lost = λ g. same_h x h ∙ A.lost g;
      number = λ g q. let n = A.number g q in (n.0, same_h x h ∙ n.1);
      outdated = λ g q. let n = A.outdated g q in (n.0, same_h x h ∙ n.1);
      refs = λ g p q. ref_off x Q p e g q h (A.refs g p q);
    }
