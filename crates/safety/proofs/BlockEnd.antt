-- The beginning of a block, and its end: its variables are closed and leave scope.
use Prim.Native.Nat.{ℕ, suc, ◌≤◌, ◌<◌}
use native.Mathlib.Omega.{arith}
use native.Mathlib.Decide.{dec_le}
use mathlib.Core.Path.{◌≡◌, refl, sym, ap, ◌∙◌, subst}
use mathlib.Core.Logic.{◌≢◌, ◌⊎◌, inl, inr}
use mathlib.Core.Bool.{true}
use mathlib.Core.Option.{Option, none, some}
use mathlib.Core.List.{List}
use Rattle.syntax.specs.Result.{ok, ◌>>=◌}
use Rattle.syntax.specs.Script.{Place}
use Rattle.statics.specs.Environment.{Variable, Slot, free, used, live, Environment, Ty, lives_at, leave_slot, leave}
use Rattle.statics.specs.Uses.{Unfinished}
use Rattle.statics.specs.Rules.{borrow_in}
use Rattle.statics.proofs.Slots.{free≢live, used≢live, leave_live}
use Rattle.dynamics.specs.Values.{Value, empty}
use Rattle.dynamics.specs.Store.{State, with_store}
use Rattle.dynamics.specs.Drop.{close_all}
use Rattle.dynamics.specs.Run.{run_block_end, entered}
use Rattle.statics.proofs.Choose.{choose, choose_yes, choose_no}
use Rattle.safety.proofs.Memory.{Name, in_flight, in_drop, var, Spot, Content, no_row, name_dec, var≢flight, drop≢flight}
use Rattle.safety.proofs.NameMaps.{upd, upd_same, upd_other}
use Rattle.safety.proofs.Ghost.{vacant}
use Rattle.safety.proofs.Ghost as Gh
use Rattle.safety.proofs.Typing.{borrowed, Ref, Holds, Typed}
use Rattle.safety.proofs.Frames.{sweep, reworked, left}
use Rattle.safety.proofs.Known.{Known, by_flight, by_holder, known_off}
use Rattle.safety.proofs.Covering.{borrow_among, covers, vacant≢live, covered_back, covered_none, vac_covers, live_covers, covers_less, covered_fresh}
use Rattle.safety.proofs.Invariant.{Member, flight_slot, flight_row, nobody, Invariant, drop_no_row, level_of_law}
use Rattle.safety.proofs.InFlight.{flying, flying_whole, flying_borrow}
use Rattle.safety.proofs.Closing.{Closed, closing}
use Rattle.safety.proofs.Leaving.{late, late_dec, leave_same, leave_late, late_name, late_name_law, late_level, late_var}

-- A block is entered.
pub entering : {nv : ℕ} {ns : Unfinished} {Γ : Environment} {lv : ℕ} {s : State} → Invariant nv ns Γ none lv s empty → Invariant nv ns Γ none (suc lv) (entered s) empty
entering I = record {
  Θ = I.Θ;
  H = I.H;
  ρ = I.ρ;
  rank = I.rank;
  mem = I.mem;
  typed = I.typed;
  vars = I.vars;
  flight = I.flight;
  idle = I.idle;
  nothing = λ e. refl;
  deep = λ x q e. let z = I.deep x q e in omega arith;
  scope = λ x q e. (λ l. let z = I.deep x q e in absurd (omega arith), λ k. absurd k);
}

run_end : (i : ℕ) (outer : List ℕ) (s s' : State) (v : Value) → close_all i s s.opened ≡ ok s'
    → run_block_end i outer (s, v) ≡ ok (record { store = s'.store; taken = s'.taken; opened = outer }, v)
unfolding run_block_end ◌>>=◌
run_end i outer s s' v e = rw e refl

-- The value in flight belongs to the block around.
record Lowered (nv lv : ℕ) (ns : Unfinished) (o : Option Ty) (Θ : Name → Gh.Slot) (H : Name → Content) (ρ : Name → ℕ → Spot) (rank : Name → ℕ) : Type 0 where
  pub Θ₁ : Name → Gh.Slot
  pub typed : Typed nv nobody Θ₁ H ρ rank
  pub rest : (z : Name) → z ≢ in_flight → Θ₁ z ≡ Θ z
  pub flight : covers (Unit {0}) (Θ₁ in_flight) (flight_slot o lv)
  pub known : {z : Name} → Known ns Θ₁ z → Known ns Θ z
  pub at_lv : (q : Gh.Variable) → Θ₁ in_flight ≡ Gh.live q → q.level ≡ lv

lower : {nv : ℕ} {ns : Unfinished} {Γ : Environment} {lv : ℕ} {s : State} {v : Value} (o : Option Ty) (I : Invariant nv ns Γ o (suc lv) s v)
    → lives_at Γ (borrow_in nv o) lv ≡ true → Lowered nv lv ns o I.Θ I.H I.ρ I.rank
lower none I l = record { Θ₁ = I.Θ; typed = I.typed; rest = λ z n. refl; flight = I.flight; known = λ k. k; at_lv = λ q e. absurd (vacant≢live (sym (covered_none (I.Θ in_flight) used I.flight (λ v k. used≢live k)) ∙ e)) }
lower {nv} {ns} {Γ} {lv} (some t) I l = record {
  Θ₁ = Θ₁;
  typed = reworked I.typed q N (flying I).1 (flying_whole I) (omega arith) refl (I.typed.at in_flight q (flying I).1).fits refl
      (λ p R e f. level_of_law I t.borrow lv p R l (borrow_among (flying_borrow I) p e) f)
      Θ₁ (upd_same I.Θ in_flight _) (λ z n. upd_other I.Θ in_flight _ z n) I.H (λ v h. h) (λ z n. refl) I.ρ (λ z j n. refl);
  rest = λ z n. upd_other I.Θ in_flight _ z n;
  flight = live_covers (Θ₁ in_flight) (flight_slot (some t) lv) _ _ (upd_same I.Θ in_flight _) refl (covered_fresh (flying I).2.chain refl (flying_borrow I));
  known = known_off (λ z. z ≡ in_flight) (λ z. name_dec z in_flight) (λ z n. upd_other I.Θ in_flight _ z n)
      (λ z Q p h K. let e : Gh.live N ≡ Gh.live Q = sym (upd_same I.Θ in_flight _) ∙ ap Θ₁ (sym h) ∙ K.is in
      let u : N ≡ Q = cc in
      by_holder q p by_flight (record { is = (flying I).1; whole = flying_whole I; at = ap (λ (y : Gh.Variable). borrowed y.borrow) u ∙ K.at }));
  at_lv = λ k e. let z : N ≡ k = (let a = upd_same I.Θ in_flight (Gh.live N) in cc) in ap (λ (y : Gh.Variable). y.level) (sym z);
}
  where
    q : Gh.Variable
    q = (flying I).0

    N : Gh.Variable
    N = Gh.fresh q.chain q.borrow lv

    Θ₁ : Name → Gh.Slot
    Θ₁ = upd I.Θ in_flight (Gh.live N)

module _ {nv : ℕ} {ns : Unfinished} {Γ : Environment} {lv : ℕ} {s : State} {v : Value} (o : Option Ty) (I : Invariant nv ns Γ o (suc lv) s v) (lvl : lives_at Γ (borrow_in nv o) lv ≡ true)
    (outer : List ℕ) (i : ℕ) (sc : (x : ℕ) (q : Variable) → leave lv Γ x ≡ live q → (lv ≤ q.level → Member x outer) × (Member x outer → lv ≤ q.level)) where
  lowered : Lowered nv lv ns o I.Θ I.H I.ρ I.rank
  lowered = lower o I lvl

  Θ₂ : Name → Gh.Slot
  Θ₂ z = choose (late_name_law Γ lv z) vacant (lowered.Θ₁ z)

  same : (z : Name) → (late_name Γ lv z → ⊥) → Θ₂ z ≡ lowered.Θ₁ z
  unfolding Θ₂
  same z h = choose_no (late_name_law Γ lv z) vacant (lowered.Θ₁ z) h

  vacated : (z : Name) → late_name Γ lv z → Θ₂ z ≡ vacant
  unfolding Θ₂
  vacated z h = choose_yes (late_name_law Γ lv z) vacant (lowered.Θ₁ z) h

  dead : (z : Name) → late_name Γ lv z → (q : Gh.Variable) → Θ₂ z ≢ Gh.live q
  dead z h q e = vacant≢live (sym (vacated z h) ∙ e)

  drop_vacant : Θ₂ in_drop ≡ vacant
  drop_vacant = same in_drop (λ h. h) ∙ lowered.rest in_drop drop≢flight ∙ I.idle

  not_late : (p : Place) (R : Gh.Variable) → lowered.Θ₁ (var p.root) ≡ Gh.live R → R.level ≤ lv → late_name Γ lv (var p.root) → ⊥
  not_late p R e l h =
      let u = covered_back (I.Θ (var p.root)) (Γ p.root) R (I.vars p.root) (sym (lowered.rest (var p.root) var≢flight) ∙ e) in
      let b = late_level lv (Γ p.root) u.0 u.1 h in
      let c : R.level ≡ u.0.level = u.2.level in
      omega arith

  shut : (x : Name) (q : Gh.Variable) (p : Place) → Holds lowered.Θ₁ x q p → (late_name Γ lv x → ⊥) → late_name Γ lv (var p.root) → ⊥
  shut x q p K h = go x q K h ((lowered.typed.at x q K.is).refs K.whole p K.at)
    where
      go : (x : Name) (q : Gh.Variable) → Holds lowered.Θ₁ x q p → (late_name Γ lv x → ⊥) → Ref lowered.Θ₁ I.H I.ρ I.rank x q p
          → late_name Γ lv (var p.root) → ⊥
      go in_flight q K h R l = not_late p R.W R.is (let z = lowered.at_lv q K.is in omega (arith, R.around)) l
      go in_drop q K h R l = vacant≢live (sym (lowered.rest in_drop drop≢flight ∙ I.idle) ∙ K.is)
      go (var y) q K h R l =
          let u = covered_back (I.Θ (var y)) (Γ y) q (I.vars y) (sym (lowered.rest (var y) var≢flight) ∙ K.is) in
          not_late p R.W R.is (let z = low y u.0 u.1 h in let c : q.level ≡ u.0.level = u.2.level in omega (arith, R.around)) l
        where
          low : (y : ℕ) (q : Variable) → Γ y ≡ live q → (late_name Γ lv (var y) → ⊥) → q.level ≤ lv
          low y q e h = elim (dec_le q.level lv) [ yes a ↦ a | no a ↦ absurd (h (is_late (Γ y) q e (omega arith))) ]
            where
              is_late : (sl : Slot) (q : Variable) → sl ≡ live q → lv < q.level → late lv sl
              is_late free q e l = absurd (free≢live e)
              is_late used q e l = absurd (used≢live e)
              is_late (live k) q e l = let z : k ≡ q = cc in rw z l

  left_typed : Typed nv (λ z. nobody z ⊎ late_name Γ lv z) Θ₂ I.H I.ρ I.rank
  left_typed = left lowered.typed (late_name Γ lv) (late_name_law Γ lv) Θ₂ same dead shut

  known : {z : Name} → Known ns Θ₂ z → Known ns I.Θ z
  known k = lowered.known (known_off (late_name Γ lv) (late_name_law Γ lv) same (λ z Q p h K. absurd (dead z h Q K.is)) k)

  vars' : (x : ℕ) → covers (Known ns Θ₂ (var x)) (Θ₂ (var x)) (leave_slot lv (Γ x))
  vars' x = go (late_dec lv (Γ x))
    where
      go : Dec (late lv (Γ x)) → covers (Known ns Θ₂ (var x)) (Θ₂ (var x)) (leave_slot lv (Γ x))
      go (yes h) = vac_covers (Θ₂ (var x)) (leave_slot lv (Γ x)) (vacated (var x) h) (λ v e. used≢live (sym (leave_late lv (Γ x) h) ∙ e))
      go (no h) = subst (λ (sl : Slot). covers (Known ns Θ₂ (var x)) (Θ₂ (var x)) sl) (sym (leave_same lv (Γ x) h)) (covers_less (Θ₂ (var x)) (I.Θ (var x)) (Γ x) known (same (var x) h ∙ lowered.rest (var x) var≢flight) (I.vars x))

  opened_dead : (x : ℕ) → Member x s.opened → (q : Gh.Variable) → Θ₂ (var x) ≢ Gh.live q
  opened_dead x h q e =
      let u = covered_back (Θ₂ (var x)) (leave_slot lv (Γ x)) q (vars' x) e in
      let a = leave_live lv (Γ x) u.0 u.1 in
      let b = (I.scope x u.0 a.0).1 h in
      omega (arith, a.1)

  ends : Closed nv (λ z. nobody z ⊎ late_name Γ lv z) Θ₂ I.rank I.H (flight_row o v) s.taken s s.opened (close_all i s s.opened)
  ends = closing nv (λ z. nobody z ⊎ late_name Γ lv z) Θ₂ I.rank (flight_row o v) i (λ q e. vacant≢live (sym drop_vacant ∙ e)) s.opened s I.H I.ρ I.mem left_typed (drop_no_row I) opened_dead

  late_out : (z : Name) → late_name Γ lv z → (nobody z → ⊥) → ends.H' z ≡ no_row
  late_out in_flight h g = absurd h
  late_out in_drop h g = absurd h
  late_out (var x) h g = let a = late_var lv (Γ x) h in ends.out x ((I.scope x a.0 a.1).0 a.2)

  typed' : Typed nv nobody Θ₂ ends.H' ends.ρ' I.rank
  typed' = sweep ends.typed (late_name Γ lv) (late_name_law Γ lv) Θ₂ (λ z n. refl) dead dead nobody ends.H' ends.ρ'
      (λ z n. refl) (λ z j n. refl) (λ z n g k. elim k [ inl a ↦ a | inr b ↦ n b ]) late_out

  pub block_ends : (s' : State) × (run_block_end i outer (s, v) ≡ ok (s', v)) × (Invariant nv ns (leave lv Γ) o lv s' v)
  unfolding leave
  block_ends = (
    record { store = ends.A; taken = s.taken; opened = outer },
    run_end i outer s (with_store s ends.A) v ends.ran,
    record {
      Θ = Θ₂;
      H = ends.H';
      ρ = ends.ρ';
      rank = I.rank;
      mem = ends.mem;
      typed = typed';
      nothing = I.nothing;
      vars = vars';
      flight = covers_less (Θ₂ in_flight) (lowered.Θ₁ in_flight) (flight_slot o lv) (λ u. u) (same in_flight (λ h. h)) lowered.flight;
      idle = drop_vacant;
      deep = λ x q e. (leave_live lv (Γ x) q e).1;
      scope = sc;
    },
  )
