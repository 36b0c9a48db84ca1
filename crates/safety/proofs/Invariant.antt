-- The invariant between terms: the judge's environment Γ and its type o of the last value, against the run's state s and that value v;
-- ns is the terms that have not finished.
use Prim.Native.Nat.{ℕ, ◌≤◌, ◌<◌}
use mathlib.Core.Path.{◌≡◌, refl, sym, ◌∙◌, subst}
use mathlib.Core.Logic.{◌⊎◌}
use mathlib.Core.Bool.{true}
use mathlib.Core.Option.{Option, none, some}
use mathlib.Core.List.{List, [], ◌∷◌}
use Rattle.syntax.specs.Script.{Place}
use Rattle.statics.specs.Links.{leading_boxes}
use Rattle.statics.specs.Environment.{Borrow, places, Variable, Slot, used, live, Environment, Ty, fresh, level_of, lives_at}
use Rattle.statics.specs.Uses.{Unfinished, named_later}
use Rattle.statics.specs.Neat.{Among}
use Rattle.statics.proofs.Slots.{used≢live}
use Rattle.dynamics.specs.Values.{Value, empty, Row, closed, open_with}
use Rattle.dynamics.specs.Store.{State}
use Rattle.safety.proofs.Memory.{Name, in_flight, in_drop, var, Spot, Content, no_row, Memory}
use Rattle.safety.proofs.Lifted.{lift}
use Rattle.safety.proofs.Ghost.{vacant}
use Rattle.safety.proofs.Ghost as Gh
use Rattle.safety.proofs.Typing.{Holds, Typed}
use Rattle.safety.proofs.Known.{Known, by_holder, known_less}
use Rattle.safety.proofs.Covering.{BorrowIn, covers, vacant≢live, covered_back, covered_none, covers_less}
use Rattle.safety.proofs.Inversion.{level_in}

abbrev pub Member : ℕ → List ℕ → Type 0
Member x [] = ⊥
Member x (y ∷ ys) = (x ≡ y) ⊎ Member x ys

-- The value in flight is a name like a variable, in scope if there is a value, at the level lv of the block around the term.
abbrev pub flight_slot : Option Ty → ℕ → Slot
flight_slot none lv = used
flight_slot (some t) lv = live (fresh t.links t.borrow lv)

abbrev pub flight_row : Option Ty → Value → Row
flight_row none v = closed
flight_row (some t) v = open_with v

-- Between terms nothing is only to be dropped.
abbrev pub nobody : Name → Type 0
nobody z = ⊥

pub record Invariant (nv : ℕ) (ns : Unfinished) (Γ : Environment) (o : Option Ty) (lv : ℕ) (s : State) (v : Value) : Type 0 where
  -- What the proof knows besides: its own environment, what each name has and where, and ranks.
  pub Θ : Name → Gh.Slot
  pub H : Name → Content
  pub ρ : Name → ℕ → Spot
  pub rank : Name → ℕ
  pub mem : Memory H (lift s.store (flight_row o v) closed) s.taken ρ
  pub typed : Typed nv nobody Θ H ρ rank
  -- The judge's environment covers the proof's. Nothing is being dropped, and a term without a value leaves none.
  pub vars : (x : ℕ) → covers (Known ns Θ (var x)) (Θ (var x)) (Γ x)
  pub flight : covers (Unit {0}) (Θ in_flight) (flight_slot o lv)
  pub idle : Θ in_drop ≡ vacant
  pub nothing : o ≡ none → v ≡ empty
  -- No variable lives deeper than the block around the term, and those that live there are those that the block has opened.
  pub deep : (x : ℕ) (q : Variable) → Γ x ≡ live q → q.level ≤ lv
  pub scope : (x : ℕ) (q : Variable) → Γ x ≡ live q → (lv ≤ q.level → Member x s.opened) × (Member x s.opened → lv ≤ q.level)

module _ {nv : ℕ} {ns : Unfinished} {Γ : Environment} {o : Option Ty} {lv : ℕ} {s : State} {v : Value} (I : Invariant nv ns Γ o lv s v) where
  pub deep_ghost : (x : ℕ) (W : Gh.Variable) → I.Θ (var x) ≡ Gh.live W → W.level ≤ lv
  deep_ghost x W e =
      let u = covered_back (I.Θ (var x)) (Γ x) W (I.vars x) e in
      subst (λ (k : ℕ). k ≤ lv) (sym u.2.level) (I.deep x u.0 u.1)

  pub drop_no_row : I.H in_drop ≡ no_row
  drop_no_row = I.typed.absent in_drop (λ g. g) (λ q e. vacant≢live (sym I.idle ∙ e))

  -- What a variable holds, the judge knows.
  pub holder_var : (y : ℕ) (q : Gh.Variable) (p : Place) → Holds I.Θ (var y) q p
      → (v : Variable) × (y < nv) × (Γ y ≡ live v) × (leading_boxes v.chain < v.moved_from) × (BorrowIn q.borrow v.borrow)
  holder_var y q p K =
      let u = covered_back (I.Θ (var y)) (Γ y) q (I.vars y) K.is in
      let h = u.2.holds p K.at K.whole in
      (u.0, I.typed.bound y q K.is, u.1, h.0, h.1)

module _ {nv : ℕ} {ns : Unfinished} {Γ : Environment} {lv : ℕ} {s : State} (I : Invariant nv ns Γ none lv s empty) where
  pub flight_vacant : I.Θ in_flight ≡ vacant
  flight_vacant = covered_none (I.Θ in_flight) used I.flight (λ v e. used≢live e)

  -- The names that hold something are variables.
  pub holder : (h : Name) (q : Gh.Variable) (p : Place) → Holds I.Θ h q p
      → (y : ℕ) × (v : Variable) × (h ≡ var y) × (y < nv) × (Γ y ≡ live v) × (leading_boxes v.chain < v.moved_from) × (BorrowIn q.borrow v.borrow)
  holder in_flight q p K = absurd (vacant≢live (sym flight_vacant ∙ K.is))
  holder in_drop q p K = absurd (vacant≢live (sym I.idle ∙ K.is))
  holder (var y) q p K = let u = holder_var I y q p K in (y, u.0, refl, u.1, u.2, u.3, u.4)

  pub flight_no_row : I.H in_flight ≡ no_row
  flight_no_row = I.typed.absent in_flight (λ g. g) (λ q e. vacant≢live (sym flight_vacant ∙ e))

pub level_of_law : {nv : ℕ} {ns : Unfinished} {Γ : Environment} {o : Option Ty} {lv : ℕ} {s : State} {v : Value} (I : Invariant nv ns Γ o lv s v) (b : Borrow) (l : ℕ) (p : Place) (R : Gh.Variable)
    → lives_at Γ b l ≡ true → Among p (places b) → I.Θ (var p.root) ≡ Gh.live R → R.level ≤ l
unfolding level_of
level_of_law {nv} {ns} {Γ} I b l p R h i f =
    let u = covered_back (I.Θ (var p.root)) (Γ p.root) R (I.vars p.root) f in
    let e = level_in Γ b l p h i in
    subst (λ (k : ℕ). k ≤ l) (sym u.2.level) (rw u.1 at e)

-- As terms finish, less need be known.
pub later : {nv : ℕ} {ns ns' : Unfinished} {Γ : Environment} {o : Option Ty} {lv : ℕ} {s : State} {v : Value} → ((x : ℕ) → named_later ns' x ≡ true → named_later ns x ≡ true)
    → Invariant nv ns Γ o lv s v → Invariant nv ns' Γ o lv s v
later {Γ = Γ} f I = record {
  Θ = I.Θ;
  H = I.H;
  ρ = I.ρ;
  rank = I.rank;
  mem = I.mem;
  typed = I.typed;
  vars = λ x. covers_less (I.Θ (var x)) (I.Θ (var x)) (Γ x) (known_less f (λ y Q p k K. by_holder Q p k K)) refl (I.vars x);
  flight = I.flight;
  idle = I.idle;
  nothing = I.nothing;
  deep = I.deep;
  scope = I.scope;
}
