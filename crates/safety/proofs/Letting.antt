-- Let: its number is taken, and after its inner term its variable comes into scope.
use Prim.Native.Nat.{ℕ, ◌+◌, ◌-◌, ◌≤◌, ◌<◌, zero-le}
use native.Mathlib.Omega.{arith}
use native.Mathlib.Decide.{ℕ_discrete}
use mathlib.Core.Path.{◌≡◌, refl, sym, ap, ap₂, ◌∙◌, subst}
use mathlib.Core.Logic.{◌≢◌, ◌⊎◌, inl, inr}
use mathlib.Core.Option.{Option, none, some}
use mathlib.Core.List.{◌∷◌}
use Rattle.syntax.specs.Result.{ok, ◌>>=◌, need}
use Rattle.syntax.specs.Script.{Place}
use Rattle.statics.specs.Environment.{Variable, Slot, free, used, live, Environment, Ty, update, fresh}
use Rattle.statics.specs.Uses.{Unfinished}
use Rattle.statics.specs.Rules.{Out, valued, judge_let}
use Rattle.statics.proofs.Slots.{free≢live, used≢live, update_same, update_other}
use Rattle.dynamics.specs.Values.{variable, Value, empty, closed, open_with}
use Rattle.dynamics.specs.Store.{Store, put, is_open, State}
use Rattle.dynamics.specs.Run.{run_let}
use Rattle.statics.proofs.Answers.{err≢ok}
use Rattle.dynamics.proofs.StoreLaws.{put_same}
use Rattle.safety.proofs.Memory.{Name, in_flight, in_drop, var, Spot, Content, no_row, has, p_empty, Memory, either_dec, var≢flight, var≢drop, drop≢flight}
use Rattle.safety.proofs.NameMaps.{upd, upd_same, upd_other}
use Rattle.safety.proofs.Lifted.{lift, lift_other, lift_flight}
use Rattle.safety.proofs.Transfer.{moved, moved_other, transfer}
use Rattle.safety.proofs.Naming.{open_name, close_name}
use Rattle.safety.proofs.Ghost.{vacant}
use Rattle.safety.proofs.Ghost as Gh
use Rattle.safety.proofs.Typing.{borrowed, boxes, Holds, Typed}
use Rattle.safety.proofs.Handing.{handed}
use Rattle.safety.proofs.Known.{Known, by_flight, by_holder, known_off}
use Rattle.safety.proofs.Covering.{covers, vacant≢live, covered_none, vac_covers, live_covers, covers_less, covered_fresh}
use Rattle.safety.proofs.Invariant.{Member, nobody, Invariant, deep_ghost}
use Rattle.safety.proofs.InFlight.{Full, content, flying, flying_whole, flying_borrow}

-- A variable's number is taken.
pub taking : {nv : ℕ} {ns : Unfinished} {Γ : Environment} {lv : ℕ} {s : State} (x : ℕ) → Γ x ≡ free → Invariant nv ns Γ none lv s empty
    → Invariant nv ns (update Γ x used) none lv s empty
taking {nv} {ns} {Γ} {lv} {s} x e I = record {
  Θ = I.Θ;
  H = I.H;
  ρ = I.ρ;
  rank = I.rank;
  mem = I.mem;
  typed = I.typed;
  flight = I.flight;
  idle = I.idle;
  vars = λ y. vars' y (ℕ_discrete y x);
  nothing = λ q. refl;
  deep = λ y q h. I.deep y q (back y q h);
  scope = λ y q h. I.scope y q (back y q h);
}
  where
    vars' : (y : ℕ) → Dec (y ≡ x) → covers (Known ns I.Θ (var y)) (I.Θ (var y)) (update Γ x used y)
    vars' y (yes k) = vac_covers (I.Θ (var y)) (update Γ x used y) (covered_none (I.Θ (var y)) (Γ y) (I.vars y) (λ v h. free≢live (sym e ∙ ap Γ (sym k) ∙ h))) (λ v h. used≢live (sym (update_same Γ x used) ∙ ap (λ (n : ℕ). update Γ x used n) (sym k) ∙ h))
    vars' y (no k) = subst (λ (sl : Slot). covers (Known ns I.Θ (var y)) (I.Θ (var y)) sl) (sym (update_other Γ x used y k)) (I.vars y)

    back : (y : ℕ) (q : Variable) → update Γ x used y ≡ live q → Γ y ≡ live q
    back y q h = elim (ℕ_discrete y x) [ yes k ↦ absurd (used≢live (sym (update_same Γ x used) ∙ ap (λ (n : ℕ). update Γ x used n) (sym k) ∙ h)) | no k ↦ sym (update_other Γ x used y k) ∙ h ]

module _ {nv : ℕ} {ns : Unfinished} {Γ : Environment} {t : Ty} {lv : ℕ} {s : State} {v : Value} (I : Invariant nv ns Γ (some t) lv s v) where
  run_let_law : (i x : ℕ) → s.store (variable x) ≡ closed
      → run_let s i x v ≡ ok (record { store = put s.store (variable x) (open_with v); taken = s.taken; opened = x ∷ s.opened }, empty)
  unfolding run_let is_open need ◌>>=◌
  run_let_law i x e = rw e refl

  abbrev U : Variable
  U = fresh t.links t.borrow lv

  letting : (i x : ℕ) → Γ x ≡ used → x < nv
      → (s' : State) × (run_let s i x v ≡ ok (s', empty)) × (Invariant nv ns (update Γ x (live U)) none lv s' empty)
      × ((y : ℕ) (q : Variable) → update Γ x (live U) y ≡ live q → q.level < lv → (k : Variable) × (Γ y ≡ live k) × (k.level ≡ q.level))
  letting i x ux xn = (
    record { store = put S (variable x) (open_with v); taken = s.taken; opened = x ∷ s.opened },
    run_let_law i x shut,
    record {
      Θ = Θ';
      H = H₃;
      ρ = moved I.ρ in_flight 0 b 0;
      rank = T.0;
      mem = m₃;
      typed = T.1;
      vars = vars';
      flight = vac_covers (Θ' in_flight) used (upd_same (upd I.Θ b g) in_flight vacant) (λ v e. used≢live e);
      idle = Θ'z in_drop (λ e. drop≢flight e) (λ e. var≢drop (sym e)) ∙ I.idle;
      nothing = λ e. refl;
      deep = deep';
      scope = scope';
    },
    keep',
  )
    where
      S : Store
      S = s.store

      q : Gh.Variable
      q = (flying I).0

      b : Name
      b = var x

      tb : in_flight ≢ b
      tb e = var≢flight (sym e)

      dead : (k : Gh.Variable) → I.Θ b ≢ Gh.live k
      dead k e = vacant≢live (sym (covered_none (I.Θ b) (Γ x) (I.vars x) (λ v h. used≢live (sym ux ∙ h))) ∙ e)

      gone_b : I.H b ≡ no_row
      gone_b = I.typed.absent b (λ g. g) dead

      shut : S (variable x) ≡ closed
      shut = I.mem.shut b gone_b

      C : (u : Value) × (I.H in_flight ≡ has (boxes q) u) × (Full u)
      C = content I in_flight q (flying I).1 (flying_whole I)

      H₁ : Name → Content
      H₁ = upd I.H b (has 0 empty)

      m₁ : Memory H₁ (lift (put S (variable x) (open_with empty)) (open_with v) closed) s.taken I.ρ
      m₁ = open_name I.mem b empty p_empty gone_b H₁ (upd_same I.H b _) (λ z n. upd_other I.H b _ z n)
          (lift (put S (variable x) (open_with empty)) (open_with v) closed) (put_same S (variable x) (open_with empty)) (λ q n. lift_other S (variable x) (open_with empty) (open_with v) closed q n)

      H₂ : Name → Content
      H₂ = upd (upd H₁ in_flight (has 0 empty)) b (has (0 + (boxes q - 0)) C.0)

      m₂ : Memory H₂ (lift (put S (variable x) (open_with v)) (open_with empty) closed) s.taken (moved I.ρ in_flight 0 b 0)
      m₂ = transfer m₁ in_flight b 0 0 (boxes q) C.0 (upd_other I.H b _ in_flight tb ∙ C.1) zero-le (upd_same I.H b _) tb
          H₂ (upd_other (upd H₁ in_flight (has 0 empty)) b _ in_flight tb ∙ upd_same H₁ in_flight _) (upd_same (upd H₁ in_flight (has 0 empty)) b _)
          (λ z n k. upd_other (upd H₁ in_flight (has 0 empty)) b _ z k ∙ upd_other H₁ in_flight _ z n)
          (lift (put S (variable x) (open_with v)) (open_with empty) closed)
          (ap (λ (k : Spot). lift (put S (variable x) (open_with v)) (open_with empty) closed k) (I.mem.base in_flight))
          (ap (λ (k : Spot). lift (put S (variable x) (open_with v)) (open_with empty) closed k) (I.mem.base b) ∙ put_same S (variable x) (open_with v) ∙ sym (ap (λ (k : Spot). lift (put S (variable x) (open_with empty)) (open_with v) closed k) (I.mem.base in_flight)))
          (λ q n k. lift_other S (variable x) (open_with v) (open_with empty) closed q (λ e. k (e ∙ sym (I.mem.base b))) ∙ lift_flight S (open_with empty) (open_with v) closed q (λ e. n (e ∙ sym (I.mem.base in_flight)))
          ∙ sym (lift_other S (variable x) (open_with empty) (open_with v) closed q (λ e. k (e ∙ sym (I.mem.base b)))))

      H₃ : Name → Content
      H₃ = upd H₂ in_flight no_row

      m₃ : Memory H₃ (lift (put S (variable x) (open_with v)) closed closed) s.taken (moved I.ρ in_flight 0 b 0)
      m₃ = close_name m₂ in_flight empty (upd_other (upd H₁ in_flight (has 0 empty)) b _ in_flight tb ∙ upd_same H₁ in_flight _) H₃ (upd_same H₂ in_flight no_row) (λ z n. upd_other H₂ in_flight no_row z n)
          (lift (put S (variable x) (open_with v)) closed closed) refl (λ q n. lift_flight (put S (variable x) (open_with v)) closed (open_with empty) closed q n)

      g : Gh.Slot
      g = Gh.live (Gh.fresh q.chain q.borrow lv)

      Θ' : Name → Gh.Slot
      Θ' = upd (upd I.Θ b g) in_flight vacant

      Θ't : Θ' in_flight ≡ vacant
      Θ't = upd_same (upd I.Θ b g) in_flight vacant

      Θ'b : Θ' b ≡ g
      Θ'b = upd_other (upd I.Θ b g) in_flight vacant b var≢flight ∙ upd_same I.Θ b g

      Θ'z : (z : Name) → z ≢ in_flight → z ≢ b → Θ' z ≡ I.Θ z
      Θ'z z n k = upd_other (upd I.Θ b g) in_flight vacant z n ∙ upd_other I.Θ b g z k

      -- The variable holds what the value in flight held.
      known : {z : Name} → Known ns Θ' z → Known ns I.Θ z
      known = known_off (λ z. (z ≡ b) ⊎ (z ≡ in_flight)) (either_dec b in_flight) (λ z n. Θ'z z (λ e. n (inr e)) (λ e. n (inl e))) new
        where
          new : (z : Name) (Q : Gh.Variable) (k : Place) → (z ≡ b) ⊎ (z ≡ in_flight) → Holds Θ' z Q k → Known ns I.Θ (var k.root)
          new z Q k (inl h) K =
              let e : g ≡ Gh.live Q = sym Θ'b ∙ ap Θ' (sym h) ∙ K.is in
              let u : Gh.fresh q.chain q.borrow lv ≡ Q = cc in
              by_holder q k by_flight (record { is = (flying I).1; whole = flying_whole I; at = ap (λ (y : Gh.Variable). borrowed y.borrow) u ∙ K.at })
          new z Q k (inr h) K = absurd (vacant≢live (sym Θ't ∙ ap Θ' (sym h) ∙ K.is))

      vars' : (y : ℕ) → covers (Known ns Θ' (var y)) (Θ' (var y)) (update Γ x (live U) y)
      vars' y = go (ℕ_discrete y x)
        where
          go : Dec (y ≡ x) → covers (Known ns Θ' (var y)) (Θ' (var y)) (update Γ x (live U) y)
          go (yes k) = live_covers (Θ' (var y)) (update Γ x (live U) y) _ U (ap (λ (z : ℕ). Θ' (var z)) k ∙ Θ'b) (ap (λ (z : ℕ). update Γ x (live U) z) k ∙ update_same Γ x (live U)) (covered_fresh (flying I).2.chain refl (flying_borrow I))
          go (no k) = subst (λ (sl : Slot). covers (Known ns Θ' (var y)) (Θ' (var y)) sl) (sym (update_other Γ x (live U) y k)) (covers_less (Θ' (var y)) (I.Θ (var y)) (Γ y) known (Θ'z (var y) var≢flight (λ e. k (cc))) (I.vars y))

      T : (rank : Name → ℕ) × Typed nv nobody Θ' H₃ (moved I.ρ in_flight 0 b 0) rank
      T = handed I.typed in_flight b 0 q lv tb (flying I).1 (flying_whole I) zero-le dead (λ p R e f. deep_ghost I p.root R f)
          (λ h q p K e. var≢flight e)
          Θ' (inl (λ q e. vacant≢live (sym Θ't ∙ e))) Θ'b Θ'z
          H₃ (λ h. upd_same H₂ in_flight no_row) (λ h. absurd (vacant≢live (sym Θ't ∙ h)))
          (λ v' h. let w : has (boxes q) C.0 ≡ has (boxes q) v' = sym C.1 ∙ h in let z : C.0 ≡ v' = cc in
          upd_other H₂ in_flight no_row b (λ e. var≢flight e) ∙ upd_same (upd H₁ in_flight (has 0 empty)) b _ ∙ ap₂ has (omega arith) z)
          (λ z n k. upd_other H₂ in_flight no_row z n ∙ upd_other (upd H₁ in_flight (has 0 empty)) b _ z k ∙ upd_other H₁ in_flight _ z n ∙ upd_other I.H b _ z k)
          (moved I.ρ in_flight 0 b 0) (λ z j n k. moved_other I.ρ in_flight 0 b 0 z j k)
          (λ y e. let z : x ≡ y = cc in rw (← z) xn) (λ e. var≢drop e)

      keep' : (y : ℕ) (q : Variable) → update Γ x (live U) y ≡ live q → q.level < lv → (k : Variable) × (Γ y ≡ live k) × (k.level ≡ q.level)
      keep' y q e l = go (ℕ_discrete y x)
        where
          go : Dec (y ≡ x) → (k : Variable) × (Γ y ≡ live k) × (k.level ≡ q.level)
          go (yes h) =
              let f : live U ≡ live q = sym (update_same Γ x (live U)) ∙ ap (λ (z : ℕ). update Γ x (live U) z) (sym h) ∙ e in
              let z : U ≡ q = cc in
              let y : lv ≡ q.level = ap (λ (k : Variable). k.level) z in
              absurd (omega arith)
          go (no h) = (q, sym (update_other Γ x (live U) y h) ∙ e, refl)

      deep' : (y : ℕ) (q : Variable) → update Γ x (live U) y ≡ live q → q.level ≤ lv
      deep' y q e = go (ℕ_discrete y x)
        where
          go : Dec (y ≡ x) → q.level ≤ lv
          go (yes h) =
              let f : live U ≡ live q = sym (update_same Γ x (live U)) ∙ ap (λ (z : ℕ). update Γ x (live U) z) (sym h) ∙ e in
              let z : U ≡ q = cc in
              let y : lv ≡ q.level = ap (λ (k : Variable). k.level) z in
              omega arith
          go (no h) = I.deep y q (sym (update_other Γ x (live U) y h) ∙ e)

      scope' : (y : ℕ) (q : Variable) → update Γ x (live U) y ≡ live q
          → (lv ≤ q.level → Member y (x ∷ s.opened)) × (Member y (x ∷ s.opened) → lv ≤ q.level)
      scope' y q e = go (ℕ_discrete y x)
        where
          go : Dec (y ≡ x) → (lv ≤ q.level → Member y (x ∷ s.opened)) × (Member y (x ∷ s.opened) → lv ≤ q.level)
          go (yes h) =
              let f : live U ≡ live q = sym (update_same Γ x (live U)) ∙ ap (λ (z : ℕ). update Γ x (live U) z) (sym h) ∙ e in
              let z : U ≡ q = cc in
              let w : lv ≡ q.level = ap (λ (k : Variable). k.level) z in
              (λ l. inl h, λ i. omega arith)
          go (no h) =
              let R = I.scope y q (sym (update_other Γ x (live U) y h) ∙ e) in
              (λ l. inr (R.0 l), λ i. elim i [ inl k ↦ absurd (h k) | inr k ↦ R.1 k ])

module _ {nv : ℕ} {ns : Unfinished} {Γ : Environment} {lv : ℕ} {s : State} {v : Value} where
  pub after_let : (o : Option Ty) → Invariant nv ns Γ o lv s v → (i x : ℕ) (out : Out) → Γ x ≡ used → x < nv → judge_let nv lv Γ i x o ≡ ok out
      → (s' : State) × (run_let s i x v ≡ ok (s', empty)) × (Invariant nv ns out.0 out.1 lv s' empty)
      × ((y : ℕ) (q : Variable) → out.0 y ≡ live q → q.level < lv → (k : Variable) × (Γ y ≡ live k) × (k.level ≡ q.level))
      × ((y : ℕ) → y ≢ x → out.0 y ≡ Γ y)
  unfolding judge_let valued ◌>>=◌
  after_let none I i x out ux xn h = absurd (err≢ok h)
  after_let (some t) I i x out ux xn h =
      let B = letting I i x ux xn in
      let z : (update Γ x (live (fresh t.links t.borrow lv)), none) ≡ out = cc in
      subst (λ (q : Out). (s' : State) × (run_let s i x v ≡ ok (s', empty)) × (Invariant nv ns q.0 q.1 lv s' empty)
      × ((y : ℕ) (r : Variable) → q.0 y ≡ live r → r.level < lv → (k : Variable) × (Γ y ≡ live k) × (k.level ≡ r.level))
      × ((y : ℕ) → y ≢ x → q.0 y ≡ Γ y)) z
      (B.0, B.1, B.2, B.3, λ y n. update_other Γ x _ y n)
