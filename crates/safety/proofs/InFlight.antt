-- What a name has whose links are whole, and the value in flight.
use Prim.Native.Nat.{ℕ, ◌<◌}
use native.Mathlib.Omega.{arith}
use mathlib.Core.Path.{◌≡◌, refl, ap}
use mathlib.Core.Option.{Option, some}
use Rattle.statics.specs.Environment.{live, Environment, Ty, fresh}
use Rattle.statics.specs.Uses.{Unfinished}
use Rattle.dynamics.specs.Values.{Location, Value, num, reference}
use Rattle.dynamics.specs.Store.{State}
use Rattle.safety.proofs.Memory.{Name, in_flight, has}
use Rattle.safety.proofs.Ghost.{stale}
use Rattle.safety.proofs.Ghost as Gh
use Rattle.safety.proofs.Typing.{borrowed, boxes}
use Rattle.safety.proofs.Covering.{BorrowIn, Covered, covered_live, covered_whole}
use Rattle.safety.proofs.Invariant.{Invariant}

-- A value that is neither empty nor an owner.
pub data Full : Value → Type 0 where
  f_num : (n : ℕ) → Full (num n)
  f_ref : (l : Location) → Full (reference l)

module _ {nv : ℕ} {ns : Unfinished} {Γ : Environment} {o : Option Ty} {lv : ℕ} {s : State} {v : Value} (I : Invariant nv ns Γ o lv s v) where
  -- What a whole name has.
  pub content : (x : Name) (q : Gh.Variable) → I.Θ x ≡ Gh.live q → boxes q < q.moved_from → (u : Value) × (I.H x ≡ has (boxes q) u) × (Full u)
  content x q e g = go q.borrow refl
    where
      go : (k : Gh.Borrow) → q.borrow ≡ k → (u : Value) × (I.H x ≡ has (boxes q) u) × (Full u)
      go Gh.no_borrow f = let n = (I.typed.at x q e).number g f in (num n.0, n.1, f_num n.0)
      go stale f = let n = (I.typed.at x q e).outdated g f in (reference n.0, n.1, f_ref n.0)
      go (Gh.shared_of p) f = let K = (I.typed.at x q e).refs g p (ap borrowed f) in (reference K.l, K.shape, f_ref K.l)
      go (Gh.exclusive_of p) f = let K = (I.typed.at x q e).refs g p (ap borrowed f) in (reference K.l, K.shape, f_ref K.l)

module _ {nv : ℕ} {ns : Unfinished} {Γ : Environment} {t : Ty} {lv : ℕ} {s : State} {v : Value} (I : Invariant nv ns Γ (some t) lv s v) where
  -- The value in flight.
  pub flying : (q : Gh.Variable) × (I.Θ in_flight ≡ Gh.live q) × (Covered (Unit {0}) q (fresh t.links t.borrow lv))
  flying = covered_live (I.Θ in_flight) (live (fresh t.links t.borrow lv)) (fresh t.links t.borrow lv) I.flight refl

  pub flying_whole : boxes flying.0 < flying.0.moved_from
  flying_whole = covered_whole flying.2 (omega arith)

  pub flying_borrow : BorrowIn flying.0.borrow t.borrow
  flying_borrow = flying.2.inside tt (omega arith)
