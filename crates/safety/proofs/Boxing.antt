-- Box.
use Prim.Native.Nat.{ℕ, suc}
use native.Mathlib.Omega.{arith}
use mathlib.Core.Path.{◌≡◌, refl, sym, ap, ◌∙◌, subst}
use mathlib.Core.Option.{Option, none, some}
use mathlib.Core.List.{List, ◌∷◌}
use Rattle.syntax.specs.Result.{ok, ◌>>=◌, need}
use Rattle.statics.specs.Links.{Link, boxed, leading_boxes}
use Rattle.statics.specs.Environment.{live, Environment, Ty, fresh}
use Rattle.statics.specs.Uses.{Unfinished}
use Rattle.statics.specs.Rules.{Out, valued, judge_box}
use Rattle.dynamics.specs.Values.{cell, Value, owner, closed, open_with}
use Rattle.dynamics.specs.Store.{Store, put, State}
use Rattle.dynamics.specs.Run.{run_box}
use Rattle.statics.proofs.Answers.{err≢ok}
use Rattle.syntax.proofs.Answers.{then}
use Rattle.dynamics.proofs.StoreLaws.{put_same}
use Rattle.safety.proofs.Memory.{Name, in_flight, in_drop, var, Content, has, name_dec, var≢flight, drop≢flight}
use Rattle.safety.proofs.NameMaps.{upd, upd_same, upd_other}
use Rattle.safety.proofs.Lifted.{lift, lift_other, lift_flight}
use Rattle.safety.proofs.Push.{pushed, pushed_other, push}
use Rattle.safety.proofs.Ghost as Gh
use Rattle.safety.proofs.Typing.{borrowed, boxes}
use Rattle.safety.proofs.Frames.{reworked}
use Rattle.safety.proofs.Known.{Known, by_flight, by_holder, known_off}
use Rattle.safety.proofs.Covering.{live_covers, covers_less, covered_fresh}
use Rattle.safety.proofs.Invariant.{Invariant, deep_ghost}
use Rattle.safety.proofs.Progress.{Progress}
use Rattle.safety.proofs.InFlight.{Full, content, flying, flying_whole, flying_borrow}

module _ {nv : ℕ} {ns : Unfinished} {Γ : Environment} {t : Ty} {lv : ℕ} {s : State} {v : Value} (I : Invariant nv ns Γ (some t) lv s v) where
  pub boxing : Progress nv ns Γ Γ (some (record { links = boxed ∷ t.links; borrow = t.borrow })) lv (run_box s v)
  unfolding run_box leading_boxes
  boxing = record {
    s = record { store = put S (cell k) (open_with v); taken = suc k; opened = s.opened };
    v = owner k;
    ran = refl;
    inv = record {
      Θ = Θ';
      H = H₁;
      ρ = pushed I.ρ in_flight k;
      rank = I.rank;
      mem = push I.mem in_flight (boxes q) C.0 C.1 H₁ (upd_same I.H in_flight _) (λ z n. upd_other I.H in_flight _ z n)
          (lift (put S (cell k) (open_with v)) (open_with (owner k)) closed) refl (put_same S (cell k) (open_with v))
          (λ q n m. lift_other S (cell k) (open_with v) (open_with (owner k)) closed q m ∙ lift_flight S (open_with (owner k)) (open_with v) closed q n);
      typed = reworked I.typed q N (flying I).1 (flying_whole I) (omega arith) refl (I.typed.at in_flight q (flying I).1).fits refl (λ p R e f. deep_ghost I p.root R f)
          Θ' (upd_same I.Θ in_flight _) (λ z n. upd_other I.Θ in_flight _ z n) H₁
          (λ v' h. let w : has (boxes q) C.0 ≡ has (boxes q) v' = sym C.1 ∙ h in let z : C.0 ≡ v' = cc in upd_same I.H in_flight _ ∙ ap (λ (y : Value). has (suc (boxes q)) y) z)
          (λ z n. upd_other I.H in_flight _ z n) (pushed I.ρ in_flight k) (λ z j n. pushed_other I.ρ in_flight k z j n);
      vars = λ x. covers_less (Θ' (var x)) (I.Θ (var x)) (Γ x) known (upd_other I.Θ in_flight _ (var x) var≢flight) (I.vars x);
      flight = live_covers (Θ' in_flight) (live (fresh (boxed ∷ t.links) t.borrow lv)) _ _ (upd_same I.Θ in_flight _) refl (covered_fresh (ap (λ (y : List Link). boxed ∷ y) (flying I).2.chain) refl (flying_borrow I));
      idle = upd_other I.Θ in_flight _ in_drop drop≢flight ∙ I.idle;
      nothing = λ e. absurd (let z : ◌≡◌ {A = ℕ} 0 1 = cc in omega arith);
      deep = I.deep;
      scope = I.scope;
    };
    keep = λ x q h l. (q, h, refl);
    stay = λ x h. h;
    lives = λ x k h. (k, h, refl, refl);
  }
    where
      S : Store
      S = s.store

      k : ℕ
      k = s.taken

      q : Gh.Variable
      q = (flying I).0

      N : Gh.Variable
      N = Gh.fresh (boxed ∷ q.chain) q.borrow lv

      Θ' : Name → Gh.Slot
      Θ' = upd I.Θ in_flight (Gh.live N)

      C : (u : Value) × (I.H in_flight ≡ has (boxes q) u) × (Full u)
      C = content I in_flight q (flying I).1 (flying_whole I)

      H₁ : Name → Content
      H₁ = upd I.H in_flight (has (suc (boxes q)) C.0)

      known : {z : Name} → Known ns Θ' z → Known ns I.Θ z
      known = known_off (λ z. z ≡ in_flight) (λ z. name_dec z in_flight) (λ z n. upd_other I.Θ in_flight _ z n)
          (λ z Q p h K. let e : Gh.live N ≡ Gh.live Q = sym (upd_same I.Θ in_flight _) ∙ ap Θ' (sym h) ∙ K.is in
          let u : N ≡ Q = cc in
          by_holder q p by_flight (record { is = (flying I).1; whole = flying_whole I; at = ap (λ (y : Gh.Variable). borrowed y.borrow) u ∙ K.at }))

module _ {nv : ℕ} {ns : Unfinished} {Γ : Environment} {lv : ℕ} {s : State} {v : Value} where
  pub after_box : (o : Option Ty) → Invariant nv ns Γ o lv s v → (i : ℕ) (out : Out) → judge_box nv Γ i o ≡ ok out
      → Progress nv ns Γ out.0 out.1 lv (run_box s v)
  unfolding judge_box valued ◌>>=◌
  after_box none I i out h = absurd (err≢ok h)
  after_box (some t) I i out h =
      let b = then (need _ (42, i)) _ out h in
      let z : (Γ, some (record { links = boxed ∷ t.links; borrow = t.borrow })) ≡ out = let k = b.2 in cc in
      subst (λ (q : Out). Progress nv ns Γ q.0 q.1 lv (run_box s v)) z (boxing I)
