-- The invariant with a new value in flight that owns nothing.
use Prim.Native.Nat.{ℕ}
use native.Mathlib.Omega.{arith}
use mathlib.Core.Path.{◌≡◌, refl, sym, ap, ◌∙◌}
use mathlib.Core.Bool.{true}
use mathlib.Core.Option.{none, some}
use Rattle.syntax.specs.Script.{Place}
use Rattle.statics.specs.Links.{leading_boxes}
use Rattle.statics.specs.Environment.{Environment, Ty}
use Rattle.statics.specs.Uses.{Unfinished}
use Rattle.statics.specs.Rules.{number_ty}
use Rattle.dynamics.specs.Values.{Value, empty, num, closed, open_with}
use Rattle.dynamics.specs.Store.{State}
use Rattle.statics.proofs.Answers.{none≢some}
use Rattle.safety.proofs.Memory.{Name, in_flight, in_drop, var, has, name_dec, Plain, p_num, var≢flight, drop≢flight}
use Rattle.safety.proofs.NameMaps.{upd, upd_same, upd_other}
use Rattle.safety.proofs.Lifted.{lift, lift_flight}
use Rattle.safety.proofs.Naming.{open_name}
use Rattle.safety.proofs.Ghost as Gh
use Rattle.safety.proofs.Typing.{borrowed, is_exclusive, At, Holds}
use Rattle.safety.proofs.Frames.{in_flight_law}
use Rattle.safety.proofs.Known.{Known, known_off}
use Rattle.safety.proofs.Covering.{BorrowIn, in_none, live_covers, covers_less, covered_fresh}
use Rattle.safety.proofs.Invariant.{flight_slot, Invariant, flight_no_row}

module _ {nv : ℕ} {ns : Unfinished} {Γ : Environment} {lv : ℕ} {s : State} (I : Invariant nv ns Γ none lv s empty) where
  module _ (t : Ty) (b : Gh.Borrow) (v : Value) (pv : Plain v) (bx : leading_boxes t.links ≡ 0) (r : ℕ) (bi : BorrowIn b t.borrow) where
    abbrev pub newΘ : Name → Gh.Slot
    newΘ = upd I.Θ in_flight (Gh.live (Gh.fresh t.links b lv))

    -- A value in flight that owns nothing.
    pub new_value :
        ((p : Place) → borrowed b ≡ some p → Known ns I.Θ (var p.root))
        → At newΘ (upd I.H in_flight (has 0 v)) I.ρ (upd I.rank in_flight r) in_flight (Gh.fresh t.links b lv)
        → ((y : Name) (B : Gh.Variable) (p q : Place) → borrowed b ≡ some p → Holds I.Θ y B q → p.root ≡ q.root → (is_exclusive b ≡ true → ⊥) × (is_exclusive B.borrow ≡ true → ⊥))
        → Invariant nv ns Γ (some t) lv s v
    new_value kn A ne = record {
      Θ = newΘ;
      H = upd I.H in_flight (has 0 v);
      ρ = I.ρ;
      rank = upd I.rank in_flight r;
      mem = open_name I.mem in_flight v pv (flight_no_row I) (upd I.H in_flight (has 0 v)) (upd_same I.H in_flight (has 0 v)) (λ z n. upd_other I.H in_flight (has 0 v) z n)
          (lift s.store (open_with v) closed) refl (λ q n. lift_flight s.store (open_with v) closed closed q n);
      typed = in_flight_law I.typed (Gh.fresh t.links b lv) newΘ (upd_same I.Θ in_flight _) (λ z n. upd_other I.Θ in_flight _ z n)
          (upd I.H in_flight (has 0 v)) (λ z n. upd_other I.H in_flight (has 0 v) z n) I.ρ (λ z i n. refl) (upd I.rank in_flight r) (λ z n. upd_other I.rank in_flight r z n)
          A (λ y B p q f K nt e. ne y B p q f K e);
      vars = λ x. covers_less (newΘ (var x)) (I.Θ (var x)) (Γ x)
          (known_off (λ z. z ≡ in_flight) (λ z. name_dec z in_flight) (λ z n. upd_other I.Θ in_flight _ z n) (λ z Q p h K. kn p (new_holds z Q p h K)))
          (upd_other I.Θ in_flight _ (var x) var≢flight) (I.vars x);
      flight = live_covers (newΘ in_flight) (flight_slot (some t) lv) _ _ (upd_same I.Θ in_flight _) refl (covered_fresh refl refl bi);
      idle = upd_other I.Θ in_flight _ in_drop drop≢flight ∙ I.idle;
      nothing = λ e. absurd (let z : ◌≡◌ {A = ℕ} 0 1 = cc in omega arith);
      deep = I.deep;
      scope = I.scope;
    }
      where
        new_holds : (z : Name) (Q : Gh.Variable) (p : Place) → z ≡ in_flight → Holds newΘ z Q p → borrowed b ≡ some p
        new_holds z Q p h K =
            let e : Gh.live (Gh.fresh t.links b lv) ≡ Gh.live Q = sym (upd_same I.Θ in_flight _) ∙ ap newΘ (sym h) ∙ K.is in
            let u : Gh.fresh t.links b lv ≡ Q = cc in
            ap (λ (k : Gh.Variable). borrowed k.borrow) u ∙ K.at

  pub new_number : (n : ℕ) → Invariant nv ns Γ (some number_ty) lv s (num n)
  unfolding leading_boxes
  new_number n = new_value number_ty Gh.no_borrow (num n) (p_num n) refl 0 in_none
      (λ p e. absurd (none≢some e))
      (record {
        fits = tt;
        lost = λ h. absurd (omega arith);
        number = λ h e. (n, upd_same I.H in_flight (has 0 (num n)));
        outdated = λ h e. absurd (let z : ◌≡◌ {A = ℕ} 0 1 = cc in omega arith);
        refs = λ h p e. absurd (none≢some e);
      })
      (λ y B p q e K k. absurd (none≢some e))
