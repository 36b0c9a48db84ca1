-- Variables that are not in use for the judge forget what they borrow (Fading): none of them is a known name. Every variable that still holds
-- something is then in use for the judge, which so refuses what LANGUAGE 3.11 and 3.12 bar.
use Prim.Native.Nat.{ℕ, ◌<◌}
use mathlib.Core.Path.{◌≡◌, refl, sym, ◌∙◌, subst}
use mathlib.Core.Bool.{Bool, true, false, true≢false, Bool-discrete, not-eq-not}
use mathlib.Core.Option.{Option, none}
use Rattle.syntax.specs.Script.{Place}
use Rattle.statics.specs.Links.{leading_boxes}
use Rattle.statics.specs.Environment.{Variable, used, live, Environment, Ty}
use Rattle.statics.specs.Uses.{Unfinished, named_later}
use Rattle.statics.specs.Bars.{in_use}
use Rattle.statics.proofs.InUse.{in_use_held}
use Rattle.dynamics.specs.Values.{Value, empty}
use Rattle.dynamics.specs.Store.{State}
use Rattle.safety.proofs.Memory.{Name, in_flight, in_drop, var}
use Rattle.safety.proofs.Ghost.{vacant}
use Rattle.safety.proofs.Ghost as Gh
use Rattle.safety.proofs.Typing.{Holds, Typed}
use Rattle.safety.proofs.Fading.{faded, without, without_off, without_on, without_typed, without_holds, without_none}
use Rattle.safety.proofs.Known.{Known, known_least, without_known}
use Rattle.safety.proofs.Covering.{BorrowIn, borrow_among, covers, covers_less}
use Rattle.safety.proofs.Widening.{without_covers}
use Rattle.safety.proofs.Inversion.{is_held}
use Rattle.safety.proofs.Invariant.{nobody, Invariant, holder}

-- Γ' is the judge's environment in which it is asked who is in use: that of the invariant, or the one after a write.
module _ {nv : ℕ} {ns : Unfinished} {Γ : Environment} {o : Option Ty} {lv : ℕ} {s : State} {v : Value} (js : Unfinished) (Γ' : Environment) (I : Invariant nv ns Γ o lv s v) (b : Bool) where
  -- The names that are to forget: variables not in use, and the value in flight if b.
  abbrev Unused : Name → Type 0
  Unused in_flight = b ≡ true
  Unused in_drop = ⊥
  Unused (var x) = in_use nv js Γ' x ≡ false

  unused_dec : (z : Name) → Dec (Unused z)
  unused_dec in_flight = Bool-discrete b true
  unused_dec in_drop = no (λ h. h)
  unused_dec (var x) = Bool-discrete (in_use nv js Γ' x) false

  -- The proof's environment once they have forgotten.
  pub record Forgot : Type 0 where
    pub Θ : Name → Gh.Slot
    pub typed : Typed nv nobody Θ I.H I.ρ I.rank
    -- Nothing more is held, and the variables that hold something are in use. Those in use are as they were.
    pub back : (z : Name) (Q : Gh.Variable) (p : Place) → Holds Θ z Q p → Holds I.Θ z Q p
    pub still : (x : ℕ) (Q : Gh.Variable) (p : Place) → Holds Θ (var x) Q p → in_use nv js Γ' x ≡ true
    pub same : (x : ℕ) → in_use nv js Γ' x ≡ true → Θ (var x) ≡ I.Θ (var x)
    pub idle : Θ in_drop ≡ vacant
    pub kept : b ≡ false → Θ in_flight ≡ I.Θ in_flight
    pub lost : b ≡ true → (q : Gh.Variable) → I.Θ in_flight ≡ Gh.live q → Θ in_flight ≡ Gh.live (faded q)
    -- Nothing more is known. A variable that is in use if it is known is covered by the judge's environment as before.
    pub known : {z : Name} → Known ns Θ z → Known ns I.Θ z
    pub vars : {Θ₁ : Name → Gh.Slot} (x : ℕ) → (Known ns Θ₁ (var x) → Known ns I.Θ (var x)) → (Known ns Θ₁ (var x) → x < nv → in_use nv js Γ' x ≡ true)
        → covers (Known ns Θ₁ (var x)) (Θ (var x)) (Γ x)

  pub forget : Forgot
  forget = record {
    Θ = without I.Θ Unused unused_dec;
    typed = without_typed I.typed Unused unused_dec;
    back = without_holds I.typed Unused unused_dec;
    still = λ x Q p K. not-eq-not.0 (λ h. without_none I.typed Unused unused_dec (var x) Q p h K);
    same = λ x u. without_off I.Θ Unused unused_dec (var x) (λ h. true≢false (sym u ∙ h));
    idle = without_off I.Θ Unused unused_dec in_drop (λ h. h) ∙ I.idle;
    kept = λ e. without_off I.Θ Unused unused_dec in_flight (λ h. true≢false (sym h ∙ e));
    lost = λ e q. without_on I.Θ Unused unused_dec in_flight q e;
    known = without_known I.typed Unused unused_dec;
    vars = λ x f u. without_covers I.Θ Unused unused_dec (var x) (Γ x) (I.vars x) (λ h q e k. true≢false (sym (u k (I.typed.bound x q e)) ∙ h)) f;
  }

-- js is the list of unfinished terms by which the judge says who is in use, ns the one by which the invariant says who is known. They need not
-- be the same: the judge may count more terms as unfinished than the invariant needs. All that is asked is that every variable which ns names
-- is in use for the judge. For a term that is judged and run they are the same.
abbrev pub Used : ℕ → Unfinished → Unfinished → Environment → Type 0
Used nv js ns Γ = (x : ℕ) → x < nv → named_later ns x ≡ true → in_use nv js Γ x ≡ true

module _ {nv : ℕ} {ns : Unfinished} {Γ : Environment} {lv : ℕ} {s : State} (js : Unfinished) (I : Invariant nv ns Γ none lv s empty) (H₀ : Used nv js ns Γ) where
  -- A known variable is in use: what the proof's environment holds, the judge's does.
  known_used : (x : ℕ) → Known ns I.Θ (var x) → x < nv → in_use nv js Γ x ≡ true
  known_used = known_least (λ x. x < nv → in_use nv js Γ x ≡ true) (λ x e l. H₀ x l e) (λ y Q p K k l.
      let u = holder I y Q p K in
      in_use_held nv js Γ u.0 p.root u.3 l (is_held Γ u.0 u.1 p u.4 u.5 (borrow_among u.6 p K.at)) (k u.0 u.2 u.3))

  pub settle : Invariant nv ns Γ none lv s empty
  settle =
      let E = forget js Γ I false in
      record {
        Θ = E.Θ;
        H = I.H;
        ρ = I.ρ;
        rank = I.rank;
        mem = I.mem;
        typed = E.typed;
        vars = λ x. E.vars x E.known (λ k. known_used x (E.known k));
        flight = covers_less (E.Θ in_flight) (I.Θ in_flight) used (λ u. u) (E.kept refl) I.flight;
        idle = E.idle;
        nothing = I.nothing;
        deep = I.deep;
        scope = I.scope;
      }

-- Whoever holds something is in use for the judge.
module _ {nv : ℕ} {ns : Unfinished} {Γ : Environment} {lv : ℕ} {s : State} (js : Unfinished) (I : Invariant nv ns Γ none lv s empty) where
  pub Settled : Type 0
  Settled = (y : ℕ) (Q : Gh.Variable) (p : Place) → Holds I.Θ (var y) Q p → in_use nv js Γ y ≡ true

module _ {nv : ℕ} {ns : Unfinished} {Γ : Environment} {lv : ℕ} {s : State} (js : Unfinished) (I : Invariant nv ns Γ none lv s empty) where
  pub is_settled : (H₀ : Used nv js ns Γ) → Settled js (settle js I H₀)
  unfolding Settled settle
  is_settled H₀ = (forget js Γ I false).still

  -- The names that hold something are variables, in use for the judge, which knows what they hold.
  pub in_use_holder : Settled js I → (h : Name) (q : Gh.Variable) (p : Place) → Holds I.Θ h q p
      → (y : ℕ) × (v : Variable) × (h ≡ var y) × (y < nv) × (in_use nv js Γ y ≡ true) × (Γ y ≡ live v) × (leading_boxes v.chain < v.moved_from) × (BorrowIn q.borrow v.borrow)
  unfolding Settled
  in_use_holder S h q p K =
      let u = holder I h q p K in
      (u.0, u.1, u.2, u.3, S u.0 q p (subst (λ (z : Name). Holds I.Θ z q p) u.2 K), u.4, u.5, u.6)
