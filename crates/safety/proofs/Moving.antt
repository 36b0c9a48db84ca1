-- Move.
use Prim.Native.Nat.{ℕ, ◌+◌, ◌-◌, ◌≤◌, ◌<◌}
use native.Mathlib.Omega.{arith}
use native.Mathlib.Decide.{dec_lt}
use mathlib.Core.Path.{◌≡◌, refl, sym, ap, ap₂, ◌∙◌, subst}
use mathlib.Core.Logic.{◌≢◌, ◌⊎◌, inl, inr}
use mathlib.Core.Bool.{true, false, not}
use mathlib.Core.Option.{none, some}
use mathlib.Core.List.{List}
use lib.ListN.{drop}
use borrow.Author.Tests.{leb-true, not-true}
use Rattle.syntax.specs.Result.{ok, ◌>>=◌, need}
use Rattle.syntax.specs.Script.{Place}
use Rattle.statics.specs.Links.{Link, leading_boxes}
use Rattle.statics.specs.Environment.{Variable, live, Environment, update, fresh, moved_away}
use Rattle.statics.specs.Uses.{Unfinished, named_later}
use Rattle.statics.specs.Follow.{value_whole}
use Rattle.statics.specs.Bars.{write_barred}
use Rattle.statics.specs.Rules.{Out, in_scope, judge_move}
use Rattle.statics.proofs.Answers.{scoped}
use Rattle.dynamics.specs.Values.{Location, variable, Value, empty, num, owner, reference, closed, open_with}
use Rattle.dynamics.specs.Store.{Store, put, State, with_store}
use Rattle.dynamics.specs.Locate.{locate_from, locate, filled}
use Rattle.dynamics.specs.Run.{run_move}
use Rattle.syntax.proofs.Answers.{then, needed}
use Rattle.safety.proofs.Memory.{Name, in_flight, in_drop, var, Spot, top, Content, has, p_empty, Memory, either_dec, var≢flight, var≢drop, drop≢flight, row_open, top_only}
use Rattle.safety.proofs.NameMaps.{upd, upd_same, upd_other}
use Rattle.safety.proofs.Lifted.{spot_of, lift, lift_other, lift_same, lift_flight}
use Rattle.safety.proofs.Transfer.{moved, moved_other, transfer}
use Rattle.safety.proofs.Naming.{open_name}
use Rattle.safety.proofs.Ghost as Gh
use Rattle.safety.proofs.Typing.{borrowed, boxes, here, Holds, Typed}
use Rattle.safety.proofs.Paths.{located}
use Rattle.safety.proofs.Handing.{handed}
use Rattle.safety.proofs.Known.{Known, by_name, by_holder, known_off}
use Rattle.safety.proofs.Certificates.{root_whole}
use Rattle.safety.proofs.Covering.{borrow_among, Covered, vacant≢live, covered_live, live_covers, covers_less, covered_whole, covered_fresh, covered_moved}
use Rattle.safety.proofs.Inversion.{write_allowed}
use Rattle.safety.proofs.Invariant.{nobody, Invariant, deep_ghost, flight_vacant}
use Rattle.safety.proofs.Settling.{Settled, in_use_holder}
use Rattle.safety.proofs.Finding.{reads}
use Rattle.safety.proofs.Following.{is_whole}
use Rattle.safety.proofs.Progress.{Progress}
use Rattle.safety.proofs.InFlight.{Full, content}
use Rattle.safety.proofs.OneChanged.{levels_update, deep_update, scope_update, stay_update, lives_update, vars_update}

module _ {nv : ℕ} {ns : Unfinished} {Γ : Environment} {lv : ℕ} {s : State} (js : Unfinished) (I : Invariant nv ns Γ none lv s empty) (S : Settled js I) where
  run_move_law : (i : ℕ) (p : Place) (loc : Location) (u : Value) → locate s i p ≡ ok loc → s.store loc ≡ open_with u → u ≢ empty
      → run_move s i p ≡ ok (with_store s (put s.store loc (open_with empty)), u)
  unfolding run_move filled ◌>>=◌
  run_move_law i p loc empty e h n = absurd (n refl)
  run_move_law i p loc (num k) e h n = rw (e, h) refl
  run_move_law i p loc (owner k) e h n = rw (e, h) refl
  run_move_law i p loc (reference k) e h n = rw (e, h) refl

  moving : (i : ℕ) (p : Place) (X : Variable) → named_later ns p.root ≡ true → Γ p.root ≡ live X → leading_boxes X.chain < X.moved_from → p.follows ≤ leading_boxes X.chain
      → write_barred nv js Γ p.root ≡ false
      → Progress nv ns Γ (update Γ p.root (live (moved_away X p.follows))) (some (record { links = drop p.follows X.chain; borrow = X.borrow })) lv (run_move s i p)
  unfolding locate
  moving i p X nm eX gX₀ rX₀ nh =
      record {
        s = with_store s (put Store₀ loc (open_with empty));
        v = u;
        ran = run_move_law i p loc u L.2 stored in_place;
        inv = record {
          Θ = Θ';
          H = H₂;
          ρ = moved I.ρ a r in_flight 0;
          rank = T.0;
          mem = m₂;
          typed = T.1;
          vars = vars_update I x X (moved_away X r) eX refl refl Θ' (Gh.moved_away q r) Θ'a (covered_moved r cq rX₀)
              (λ y n. covers_less (Θ' (var y)) (I.Θ (var y)) (Γ y) known (Θ'z (var y) (λ e. n (cc)) var≢flight) (I.vars y));
          flight = live_covers (Θ' in_flight) (live (fresh (drop r X.chain) X.borrow lv)) _ _ Θ't refl (covered_fresh (ap (λ (k : List Link). drop r k) cq.chain) refl (cq.inside (by_name nm) gX₀));
          idle = Θ'z in_drop (λ e. var≢drop (sym e)) drop≢flight ∙ I.idle;
          nothing = λ e. absurd (let z : ◌≡◌ {A = ℕ} 0 1 = cc in omega arith);
          deep = deep_update I x X (moved_away X r) eX refl refl;
          scope = scope_update I x X (moved_away X r) eX refl refl;
        };
        keep = λ y q e l. levels_update I x X (moved_away X r) eX refl refl y q e;
        stay = stay_update I x X (moved_away X r) eX refl refl;
        lives = lives_update I x X (moved_away X r) eX refl refl;
      }
    where
      x : ℕ
      x = p.root

      r : ℕ
      r = p.follows

      a : Name
      a = var x

      Store₀ : Store
      Store₀ = s.store

      Q : (q : Gh.Variable) × (I.Θ a ≡ Gh.live q) × (Covered (Known ns I.Θ a) q X)
      Q = covered_live (I.Θ a) (Γ x) X (I.vars x) eX

      q : Gh.Variable
      q = Q.0

      eq : I.Θ a ≡ Gh.live q
      eq = Q.1

      cq : Covered (Known ns I.Θ a) q X
      cq = Q.2

      g_x : boxes q < q.moved_from
      g_x = covered_whole cq gX₀

      r_x : r ≤ boxes q
      r_x = let n : boxes q ≡ leading_boxes X.chain = ap leading_boxes cq.chain in omega arith

      at : a ≢ in_flight
      at e = var≢flight e

      L : (l : Location) × (spot_of l ≡ I.ρ a r) × (locate_from s i (variable x) r ≡ ok l)
      L = located s closed closed i I.mem I.typed x r a r (here q eq r_x (omega (arith, r_x, g_x)))

      loc : Location
      loc = L.0

      C : (u : Value) × (I.H a ≡ has (boxes q) u) × (Full u)
      C = content I a q eq g_x

      O : (u : Value) × (lift Store₀ closed closed (I.ρ a r) ≡ open_with u)
      O = row_open I.mem a (boxes q) C.0 r C.1 r_x

      u : Value
      u = O.0

      stored : Store₀ loc ≡ open_with u
      stored = reads I loc (I.ρ a r) (open_with u) L.1 O.1

      in_place : u ≢ empty
      in_place e = go (dec_lt r (boxes q))
        where
          go : Dec (r < boxes q) → ⊥
          go (yes h) =
              let l = I.mem.link a (boxes q) C.0 r C.1 h in
              let z : open_with (owner l.0) ≡ open_with empty = sym l.1 ∙ O.1 ∙ ap open_with e in
              let y : ◌≡◌ {A = ℕ} 0 1 = cc in
              omega arith
          go (no h) =
              let w : r ≡ boxes q = omega (arith, r_x) in
              let z : open_with C.0 ≡ open_with empty = sym (I.mem.leaf a (boxes q) C.0 C.1) ∙ ap (λ (k : ℕ). lift Store₀ closed closed (I.ρ a k)) (sym w) ∙ O.1 ∙ ap open_with e in
              not_empty C.0 C.2 (cc)
            where
              not_empty : (k : Value) → Full k → k ≡ empty → ⊥
              not_empty empty f e = elim f [ ]
              not_empty (owner _) f e = elim f [ ]
              not_empty (num n) f e = let y : ◌≡◌ {A = ℕ} 0 1 = cc in omega arith
              not_empty (reference l) f e = let y : ◌≡◌ {A = ℕ} 0 1 = cc in omega arith

      H₁ : Name → Content
      H₁ = upd I.H in_flight (has 0 empty)

      m₁ : Memory H₁ (lift Store₀ (open_with empty) closed) s.taken I.ρ
      m₁ = open_name I.mem in_flight empty p_empty (I.typed.absent in_flight (λ g. g) (λ q e. vacant≢live (sym (flight_vacant I) ∙ e))) H₁ (upd_same I.H in_flight (has 0 empty)) (λ z n. upd_other I.H in_flight (has 0 empty) z n)
          (lift Store₀ (open_with empty) closed) refl (λ q n. lift_flight Store₀ (open_with empty) closed closed q n)

      H₂ : Name → Content
      H₂ = upd (upd H₁ a (has r empty)) in_flight (has (0 + (boxes q - r)) C.0)

      not_top : I.ρ a r ≢ top in_flight
      not_top e = at (top_only I.mem a in_flight (boxes q) C.0 r C.1 r_x e)

      m₂ : Memory H₂ (lift (put Store₀ loc (open_with empty)) (open_with u) closed) s.taken (moved I.ρ a r in_flight 0)
      m₂ =
          transfer m₁ a in_flight r 0 (boxes q) C.0 (upd_other I.H in_flight (has 0 empty) a at ∙ C.1) r_x (upd_same I.H in_flight (has 0 empty)) at
          H₂ (upd_other (upd H₁ a (has r empty)) in_flight _ a at ∙ upd_same H₁ a (has r empty)) (upd_same (upd H₁ a (has r empty)) in_flight _)
          (λ z n k. upd_other (upd H₁ a (has r empty)) in_flight _ z k ∙ upd_other H₁ a (has r empty) z n)
          (lift (put Store₀ loc (open_with empty)) (open_with u) closed)
          (ap (λ (k : Spot). lift (put Store₀ loc (open_with empty)) (open_with u) closed k) (sym L.1) ∙ lift_same Store₀ loc (open_with empty) (open_with u) closed)
          (ap (λ (k : Spot). lift (put Store₀ loc (open_with empty)) (open_with u) closed k) (I.mem.base in_flight) ∙ sym O.1 ∙ lift_flight Store₀ closed (open_with empty) closed (I.ρ a r) not_top)
          (λ q n k. lift_other Store₀ loc (open_with empty) (open_with u) closed q (λ e. n (e ∙ L.1)) ∙ lift_flight Store₀ (open_with u) (open_with empty) closed q (λ e. k (e ∙ sym (I.mem.base in_flight))))

      g₁ : Gh.Slot
      g₁ = Gh.live (Gh.moved_away q r)

      g₂ : Gh.Slot
      g₂ = Gh.live (Gh.fresh (drop r q.chain) q.borrow lv)

      Θ' : Name → Gh.Slot
      Θ' = upd (upd I.Θ a g₁) in_flight g₂

      Θ'a : Θ' a ≡ g₁
      Θ'a = upd_other (upd I.Θ a g₁) in_flight g₂ a at ∙ upd_same I.Θ a g₁

      Θ't : Θ' in_flight ≡ g₂
      Θ't = upd_same (upd I.Θ a g₁) in_flight g₂

      Θ'z : (z : Name) → z ≢ a → z ≢ in_flight → Θ' z ≡ I.Θ z
      Θ'z z n k = upd_other (upd I.Θ a g₁) in_flight g₂ z k ∙ upd_other I.Θ a g₁ z n

      -- The value in flight holds what the variable held.
      known : {z : Name} → Known ns Θ' z → Known ns I.Θ z
      known = known_off (λ z. (z ≡ a) ⊎ (z ≡ in_flight)) (either_dec a in_flight) (λ z n. Θ'z z (λ e. n (inl e)) (λ e. n (inr e))) new
        where
          new : (z : Name) (Q : Gh.Variable) (k : Place) → (z ≡ a) ⊎ (z ≡ in_flight) → Holds Θ' z Q k → Known ns I.Θ (var k.root)
          new z Q k (inl h) K =
              let e : g₁ ≡ Gh.live Q = sym Θ'a ∙ ap Θ' (sym h) ∙ K.is in
              let u : Gh.moved_away q r ≡ Q = cc in
              absurd (let l : boxes Q ≡ boxes q = ap (λ (y : Gh.Variable). boxes y) (sym u) in let m : Q.moved_from ≡ r = ap (λ (y : Gh.Variable). y.moved_from) (sym u) in omega (arith, K.whole, r_x))
          new z Q k (inr h) K =
              let e : g₂ ≡ Gh.live Q = sym Θ't ∙ ap Θ' (sym h) ∙ K.is in
              let u : Gh.fresh (drop r q.chain) q.borrow lv ≡ Q = cc in
              by_holder q k (by_name nm) (record { is = eq; whole = g_x; at = ap (λ (y : Gh.Variable). borrowed y.borrow) u ∙ K.at })

      T : (rank : Name → ℕ) × Typed nv nobody Θ' H₂ (moved I.ρ a r in_flight 0) rank
      T = handed I.typed a in_flight r q lv at eq g_x r_x (λ q e. vacant≢live (sym (flight_vacant I) ∙ e)) (λ k R e f. deep_ghost I k.root R f)
          (λ h g k K e. let y = in_use_holder js I S h g k K in write_allowed nv js Γ x y.0 y.1 k nh y.3 y.4 y.5 y.6 (borrow_among y.7 k K.at) (let z : var k.root ≡ var x = e in cc))
          Θ' (inr Θ'a) Θ't Θ'z
          H₂ (λ h. absurd (h (Gh.moved_away q r) Θ'a)) (λ h. upd_other (upd H₁ a (has r empty)) in_flight _ a at ∙ upd_same H₁ a (has r empty))
          (λ v' h. let w : has (boxes q) C.0 ≡ has (boxes q) v' = sym C.1 ∙ h in let z : C.0 ≡ v' = cc in
          upd_same (upd H₁ a (has r empty)) in_flight _ ∙ ap₂ has (omega arith) z)
          (λ z n k. upd_other (upd H₁ a (has r empty)) in_flight _ z k ∙ upd_other H₁ a (has r empty) z n ∙ upd_other I.H in_flight (has 0 empty) z k)
          (moved I.ρ a r in_flight 0) (λ z i n k. moved_other I.ρ a r in_flight 0 z i k)
          (λ y e. absurd (var≢flight (sym e))) (λ e. drop≢flight (sym e))

  pub case_move : (i : ℕ) (p : Place) (out : Out) → named_later ns p.root ≡ true → judge_move nv js Γ i p ≡ ok out → Progress nv ns Γ out.0 out.1 lv (run_move s i p)
  unfolding judge_move
  case_move i p out nm h =
      let a = then (in_scope (Γ p.root) (31, i)) _ out h in
      let b = then (need _ (32, i)) _ out a.2 in
      let c = then (need _ (38, i)) _ out b.2 in
      let d = then (need (value_whole nv Γ p.root a.0) (33, i)) _ out c.2 in
      let e = then (need (not (write_barred nv js Γ p.root)) (35, i)) _ out d.2 in
      let eX = scoped _ _ _ a.1 in
      let R = moving i p a.0 nm eX (root_whole Γ p.root a.0 eX (is_whole nv Γ p.root a.0 (needed _ _ _ d.1))) (leb-true _ _ (needed _ _ _ c.1)) (not-true _ (needed _ _ _ e.1)) in
      let z : (update Γ p.root (live (moved_away a.0 p.follows)), some (record { links = drop p.follows a.0.chain; borrow = a.0.borrow })) ≡ out = let k = e.2 in cc in
      subst (λ (q : Out). Progress nv ns Γ q.0 q.1 lv (run_move s i p)) z R
