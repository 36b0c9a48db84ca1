-- Assign, as judged (LANGUAGE 3.25): the conditions hold, whether one variable may be written or several. 35 is asked in the new state, and so
-- is who is in use: whoever is not in use there forgets what it borrows.
use Prim.Native.Nat.{ℕ, ◌≤◌, ◌<◌}
use native.Mathlib.Omega.{arith}
use native.Mathlib.Decide.{ℕ_discrete, dec_lt}
use mathlib.Core.Path.{◌≡◌, refl, sym, ap, ◌∙◌, subst}
use mathlib.Core.Logic.{◌≢◌, ◌⊎◌, inl, inr}
use mathlib.Core.Bool.{Bool, true, false, not}
use mathlib.Core.Option.{Option, none, some}
use mathlib.Core.List.{List}
use lib.ListN.{take, drop}
use borrow.Author.Tests.{not-true}
use Rattle.syntax.specs.Result.{Result, ok, Refusal, ◌>>=◌, need}
use Rattle.syntax.specs.Script.{Place}
use Rattle.statics.specs.Links.{Link, leading_boxes, no_shared, same_links}
use Rattle.statics.specs.Places.{every}
use Rattle.statics.specs.Environment.{places, Variable, Slot, live, Environment, Ty, update, fresh, wider, write, level_of, lives_at}
use Rattle.statics.specs.Uses.{Unfinished, named_later}
use Rattle.statics.specs.Bars.{borrows_any, held_by, in_use, write_barred}
use Rattle.statics.specs.Rules.{Out, valued, Located, judge_place, judge_write, judge_assign}
use Rattle.statics.specs.Neat.{place, Among}
use Rattle.statics.proofs.Answers.{was_valued}
use Rattle.statics.proofs.Slots.{used≢live}
use Rattle.statics.proofs.LinkChains.{same_links_law}
use Rattle.statics.proofs.SetLaws.{every_in}
use Rattle.statics.proofs.InUse.{in_use_named, in_use_held}
use Rattle.dynamics.specs.Values.{Value}
use Rattle.dynamics.specs.Store.{State}
use Rattle.dynamics.specs.Run.{run_assign}
use Rattle.statics.proofs.Answers.{err≢ok}
use Rattle.syntax.proofs.Answers.{then, needed}
use Rattle.safety.proofs.Memory.{Name, in_flight, in_drop, var, has, var≢flight, var≢drop, drop≢flight}
use Rattle.safety.proofs.NameMaps.{upd, upd_same, upd_other}
use Rattle.safety.proofs.Ghost.{vacant}
use Rattle.safety.proofs.Ghost as Gh
use Rattle.safety.proofs.Typing.{borrowed, Fits, boxes, Reach, here, hop, Holds}
use Rattle.safety.proofs.Chains.{fits_up}
use Rattle.safety.proofs.Paths.{end_live}
use Rattle.safety.proofs.OnPath.{agreed, ranked}
use Rattle.safety.proofs.Fading.{faded, fade_none}
use Rattle.safety.proofs.Known.{Known, by_flight, by_holder, known_least, known_less}
use Rattle.safety.proofs.Covering.{borrow_among, Covered, covers, vacant≢live, covered_back, covered_fresh}
use Rattle.safety.proofs.Widening.{Wide, wide_same, wide_old, wide_new}
use Rattle.safety.proofs.Inversion.{write_allowed, is_held}
use Rattle.safety.proofs.Invariant.{Invariant, holder_var, level_of_law}
use Rattle.safety.proofs.Settling.{Forgot, forget, Used}
use Rattle.safety.proofs.Finding.{Found}
use Rattle.safety.proofs.Following.{judged_found}
use Rattle.safety.proofs.Progress.{Progress}
use Rattle.safety.proofs.Wider.{widened, value_same}
use Rattle.safety.proofs.InFlight.{content, flying, flying_whole, flying_borrow}
use Rattle.safety.proofs.Assigning.{assigned, assigning}
use Rattle.safety.proofs.WriteJudged.{write_here, other_live, other_used, write_wider}

module _ {nv : ℕ} {ns : Unfinished} {Γ : Environment} {t : Ty} {lv : ℕ} {s : State} {v : Value} (js : Unfinished) (I : Invariant nv ns Γ (some t) lv s v) where
  module _ (i : ℕ) (p : Place) (l : Located) (F : Found I p l i) (nj : named_later js p.root ≡ true) (H₀ : Used nv js ns (write Γ l.to t.borrow))
      (unshared : no_shared (take p.follows l.root.chain) ≡ true) (links : drop p.follows l.root.chain ≡ t.links)
      (lvl : every (λ (q : Place). lives_at Γ t.borrow (level_of (Γ q.root))) l.to ≡ true)
      (bar : write_barred nv js (write Γ l.to t.borrow) p.root ≡ false) where
    -- The variable that the run writes.
    written : (V₀ : Variable) × (Γ F.c ≡ live V₀) × (W : Gh.Variable) × (I.Θ (var F.c) ≡ Gh.live W) × (Covered (Known ns I.Θ (var F.c)) W V₀) × (F.d ≤ boxes W)
    written =
        let e = end_live F.reach in
        let u = covered_back (I.Θ (var F.c)) (Γ F.c) e.0 (I.vars F.c) e.1 in
        (u.0, u.1, e.0, e.1, u.2, e.2)

    -- What the value in flight has.
    content_flying : (u : Value) × (I.H in_flight ≡ has (leading_boxes t.links) u)
    content_flying =
        let c = content I in_flight (flying I).0 (flying I).1 (flying_whole I) in
        (c.0, c.1 ∙ ap (λ (k : List Link). has (leading_boxes k) c.0) (flying I).2.chain)

    level_allowed : (k : Place) (R : Gh.Variable) → Among k (places t.borrow) → I.Θ (var k.root) ≡ Gh.live R → R.level ≤ written.0.level
    unfolding level_of
    level_allowed k R h f =
        level_of_law I t.borrow written.0.level k R
        (subst (λ (y : Slot). lives_at Γ t.borrow (level_of y) ≡ true) written.1 (every_in (λ (q : Place). lives_at Γ t.borrow (level_of (Γ q.root))) (place F.c F.d) l.to lvl F.among)) h f

    -- ---- who is in use, with the new value in place

    Γ' : Environment
    Γ' = write Γ l.to t.borrow

    -- What a variable other than the one written holds, it holds for the judge afterwards.
    other_holds : (y : ℕ) (q : Gh.Variable) (k : Place) → Holds I.Θ (var y) q k → y ≢ F.c
        → (o : Variable) × (y < nv) × (Γ' y ≡ live o) × (leading_boxes o.chain < o.moved_from) × (Among k (places o.borrow))
    unfolding Γ'
    other_holds y q k K n =
        let h = holder_var I y q k K in
        let o = other_live Γ l.to t.borrow F.c F.d F.among y h.0 n h.2 in
        let C = covered_back (I.Θ (var y)) (Γ y) q (I.vars y) K.is in
        let z : C.0 ≡ h.0 = (let a : live C.0 ≡ live h.0 = sym C.1 ∙ h.2 in cc) in
        let ch : q.chain ≡ o.0.chain = C.2.chain ∙ ap (λ (u : Variable). u.chain) z ∙ o.2.chain in
        let B = o.2.borrow q.borrow (subst (λ (u : List Link). Fits u q.borrow) ch (I.typed.at (var y) q K.is).fits) h.4 in
        let m : leading_boxes h.0.chain ≡ leading_boxes o.0.chain = ap leading_boxes o.2.chain in
        (o.0, h.1, o.1, omega (arith, h.3, o.3), borrow_among B k K.at)

    -- So if it is in use, what it holds is.
    other_held : (y : ℕ) (q : Gh.Variable) (k : Place) → Holds I.Θ (var y) q k → y ≢ F.c → in_use nv js Γ' y ≡ true → in_use nv js Γ' k.root ≡ true
    other_held y q k K n u =
        let h = other_holds y q k K n in
        let R = (I.typed.at (var y) q K.is).refs K.whole k K.at in
        in_use_held nv js Γ' y k.root h.1 (I.typed.bound k.root R.W R.is) (is_held Γ' y h.0 k h.2 h.3 h.4) u

    -- The named root is in use, and so is everything on the path.
    root_used : in_use nv js Γ' p.root ≡ true
    root_used = in_use_named nv js Γ' p.root (I.typed.bound p.root F.X F.is_x) nj

    -- ---- whoever is not forgets what it borrows, and so does the value in flight if b

    module _ (b : Bool) where
      E : Forgot js Γ' I b
      E = forget js Γ' I b

      -- The path is as it was: ranks decrease along it, so that no name before its end is the variable written.
      path : {y : Name} {r : ℕ} (x : ℕ) → y ≡ var x → in_use nv js Γ' x ≡ true → Reach I.Θ (var F.c) F.d y r
          → (Reach E.Θ (var F.c) F.d y r) × (in_use nv js Γ' F.c ≡ true)
      path x e u (here Q f a b) = let z : x ≡ F.c = cc in let w : in_use nv js Γ' F.c ≡ true = subst (λ (k : ℕ). in_use nv js Γ' k ≡ true) z u in (here Q (E.same F.c w ∙ f) a b, w)
      path {y} {r} x e u (hop Q q f g a b D) =
          let K : Holds I.Θ (var x) Q q = record { is = ap I.Θ (sym e) ∙ f; whole = a; at = g } in
          let R = (I.typed.at (var x) Q K.is).refs a q g in
          let lo = R.lower in
          let n : x ≢ F.c = λ z. let k = ranked I.typed D in let m : I.rank (var x) ≡ I.rank (var F.c) = ap (λ (k : ℕ). I.rank (var k)) z in omega arith in
          let P = path q.root refl (other_held x Q q K n u) D in
          (hop {r = r} Q q (ap E.Θ e ∙ E.same x u ∙ K.is) g a b P.0, P.1)

      D₀ : (Reach E.Θ (var F.c) F.d (var p.root) p.follows) × (in_use nv js Γ' F.c ≡ true)
      D₀ = path p.root refl root_used F.reach

      -- U is the value in flight as it is then known.
      module _ (U : Gh.Variable) (kept : (k : Place) → borrowed U.borrow ≡ some k → borrowed (flying I).0.borrow ≡ some k)
          (taken : (k : Place) → borrowed U.borrow ≡ some k → held_by borrows_any (Γ' F.c) k.root ≡ true) where
        W' : Gh.Variable
        W' = Gh.fresh written.2.chain U.borrow written.2.level

        Θ₁ : Name → Gh.Slot
        Θ₁ = assigned E.Θ (var F.c) W'

        -- Whoever holds something afterwards: the variable written, what the value borrows; or another variable, as before.
        abbrev Holder : Name → Place → Type 0
        Holder y k = ((y ≡ var F.c) × (borrowed U.borrow ≡ some k)) ⊎ ((x : ℕ) × (y ≡ var x) × (x ≢ F.c) × (Q : Gh.Variable) × (Holds I.Θ (var x) Q k))

        holder₁ : (y : Name) (Q : Gh.Variable) (k : Place) → Holds Θ₁ y Q k → Holder y k
        unfolding W' Θ₁
        holder₁ in_flight Q k K = absurd (vacant≢live (sym (upd_same (upd E.Θ (var F.c) (Gh.live W')) in_flight vacant) ∙ K.is))
        holder₁ in_drop Q k K = absurd (vacant≢live (sym (upd_other (upd E.Θ (var F.c) (Gh.live W')) in_flight vacant in_drop drop≢flight ∙ upd_other E.Θ (var F.c) (Gh.live W') in_drop (λ e. var≢drop (sym e)) ∙ E.idle) ∙ K.is))
        holder₁ (var x) Q k K = go (ℕ_discrete x F.c)
          where
            go : Dec (x ≡ F.c) → Holder (var x) k
            go (yes e) =
                let f : Gh.live W' ≡ Gh.live Q = sym (upd_other (upd E.Θ (var F.c) (Gh.live W')) in_flight vacant (var F.c) var≢flight ∙ upd_same E.Θ (var F.c) (Gh.live W')) ∙ ap (λ (y : ℕ). upd (upd E.Θ (var F.c) (Gh.live W')) in_flight vacant (var y)) (sym e) ∙ K.is in
                let u : W' ≡ Q = cc in
                inl (ap var e, ap (λ (q : Gh.Variable). borrowed q.borrow) u ∙ K.at)
            go (no n) = inr (x, refl, n, Q, E.back (var x) Q k (record { is = sym (upd_other (upd E.Θ (var F.c) (Gh.live W')) in_flight vacant (var x) var≢flight ∙ upd_other E.Θ (var F.c) (Gh.live W') (var x) (λ e. n (cc))) ∙ K.is; whole = K.whole; at = K.at }))

        known₁ : {z : Name} → Known ns Θ₁ z → Known ns I.Θ z
        known₁ = known_less (λ x e. e) (λ y Q k kn K. elim (holder₁ y Q k K) [
          | inl h ↦ by_holder (flying I).0 k by_flight (record { is = (flying I).1; whole = flying_whole I; at = kept k h.1 })
          | inr h ↦ by_holder h.3 k (subst (λ (z : Name). Known ns I.Θ z) h.1 kn) h.4
        ])

        -- A variable known afterwards is in use.
        known_used : (x : ℕ) → Known ns Θ₁ (var x) → x < nv → in_use nv js Γ' x ≡ true
        unfolding Γ'
        known_used = known_least (λ x. x < nv → in_use nv js Γ' x ≡ true) (λ x e lt. H₀ x lt e) (λ y Q k K u lt. elim (holder₁ y Q k K) [
          | inl h ↦ in_use_held nv js Γ' F.c k.root (I.typed.bound F.c written.2 written.3) lt (taken k h.1) D₀.1
          | inr h ↦ other_held h.0 h.3 k h.4 h.2 (u h.0 h.1 (I.typed.bound h.0 h.3 h.4.is))
        ])

        others : (y : ℕ) → y ≢ F.c → covers (Known ns Θ₁ (var y)) (E.Θ (var y)) (Γ y)
        others y n = E.vars y known₁ (known_used y)

    -- The run leaves N in the variable written; the judge has M there, and adds the places of the value to every other variable that may be written.
    concluded : (N : Variable) → Progress nv ns Γ (update Γ F.c (live N)) none lv (run_assign s i p v) → (M : Variable)
        → write Γ l.to t.borrow F.c ≡ live M → Wide N M
        → Progress nv ns Γ (write Γ l.to t.borrow) none lv (run_assign s i p v)
    concluded N R M e w = widened R (write_wider Γ l.to t.borrow F.c F.d F.among N M e w) (value_same none lv)
        (λ x h. other_used Γ l.to t.borrow F.c F.d F.among x (λ z. used≢live (sym h ∙ ap Γ z ∙ written.1)) h)

    -- Of the variables, only the one written holds the named root.
    other_unheld : (b : Bool) (y : ℕ) (q : Gh.Variable) (k : Place) → Holds (E b).Θ (var y) q k → var y ≢ var F.c → k.root ≢ p.root
    unfolding Γ'
    other_unheld b y q k K n e =
        let h = other_holds y q k ((E b).back (var y) q k K) (λ z. n (ap var z)) in
        write_allowed nv js Γ' p.root y h.0 k bar h.1 ((E b).still y q k K) h.2 h.3 h.4 e

    -- The variable written then holds what the value borrows: the only one that may be written, or one of several that is whole.
    in_place : (M : Variable) → write Γ l.to t.borrow F.c ≡ live M → Wide (fresh written.0.chain t.borrow written.0.level) M
        → leading_boxes M.chain < M.moved_from → Progress nv ns Γ (write Γ l.to t.borrow) none lv (run_assign s i p v)
    unfolding Γ' W' Θ₁
    in_place M e w g =
        concluded (fresh written.0.chain t.borrow written.0.level)
        (assigning I i p l F written.0 written.1 written.2 written.3 written.4 unshared links (E false).Θ (E false).typed (D₀ false).0
        ((E false).same p.root root_used ∙ F.is_x) ((E false).same F.c (D₀ false).1 ∙ written.3) (E false).idle q e_u (flying I).2.chain (flying_whole I)
        (λ k R h f. level_allowed k R (borrow_among (flying_borrow I) k h) (sym ((E false).same k.root (in_use_held nv js Γ' F.c k.root (I.typed.bound F.c written.2 written.3) ((E false).typed.bound k.root R f) (taken k h) (D₀ false).1)) ∙ f)) unheld
        (fresh written.0.chain t.borrow written.0.level) refl refl (covered_fresh written.4.chain written.4.level (flying_borrow I))
        (others false q (λ k h. h) taken) content_flying.0 content_flying.1)
        M e w
      where
        q : Gh.Variable
        q = (flying I).0

        e_u : (E false).Θ in_flight ≡ Gh.live q
        e_u = (E false).kept refl ∙ (flying I).1

        fits : Fits M.chain q.borrow
        fits =
            let W = written.2 in
            let z : drop F.d W.chain ≡ q.chain = sym (agreed I.typed F.reach F.X W F.is_x written.3) ∙ ap (λ (k : List Link). drop p.follows k) F.cov_x.chain ∙ links ∙ sym (flying I).2.chain in
            subst (λ (k : List Link). Fits k q.borrow) (written.4.chain ∙ w.chain)
            (fits_up F.d W.chain q.borrow written.5 (subst (λ (k : List Link). Fits k q.borrow) (sym z) (I.typed.at in_flight q (flying I).1).fits))

        among : (k : Place) → borrowed q.borrow ≡ some k → Among k (places M.borrow)
        among k h = borrow_among (w.borrow q.borrow fits (flying_borrow I)) k h

        taken : (k : Place) → borrowed q.borrow ≡ some k → held_by borrows_any (Γ' F.c) k.root ≡ true
        taken k h = is_held Γ' F.c M k e g (among k h)

        unheld : (h : Name) (m : Gh.Variable) (k : Place) → Holds (E false).Θ h m k → h ≢ var F.c → k.root ≢ p.root
        unheld in_flight m k K n j =
            let z : q ≡ m = (let a = e_u in let b = K.is in cc) in
            write_allowed nv js Γ' p.root F.c M k bar (I.typed.bound F.c written.2 written.3) (D₀ false).1 e g (among k (ap (λ (y : Gh.Variable). borrowed y.borrow) z ∙ K.at)) j
        unheld in_drop m k K n j = vacant≢live (sym (E false).idle ∙ K.is)
        unheld (var y) m k K n j = other_unheld false y m k K n j

    -- One of several that stays counted as moved away, and so holds nothing for the judge: the value forgets what it borrows.
    forgotten : write Γ l.to t.borrow F.c ≡ live (wider written.0 t.borrow) → written.0.moved_from ≤ leading_boxes written.0.chain
        → Progress nv ns Γ (write Γ l.to t.borrow) none lv (run_assign s i p v)
    unfolding W' Θ₁
    forgotten e g =
        concluded written.0
        (assigning I i p l F written.0 written.1 written.2 written.3 written.4 unshared links (E true).Θ (E true).typed (D₀ true).0
        ((E true).same p.root root_used ∙ F.is_x) ((E true).same F.c (D₀ true).1 ∙ written.3) (E true).idle (faded q) e_u (flying I).2.chain (flying_whole I)
        (λ k R h f. absurd (fade_none q.borrow k h)) unheld written.0 refl refl
        (record {
          chain = written.4.chain;
          level = written.4.level;
          less = (let z : boxes written.2 ≡ leading_boxes written.0.chain = ap leading_boxes written.4.chain in omega arith);
          cap = omega arith;
          inside = λ k h. absurd (omega arith);
          holds = λ k f. absurd (fade_none q.borrow k f);
        })
        (others true (faded q) (λ k h. absurd (fade_none q.borrow k h)) (λ k h. absurd (fade_none q.borrow k h))) content_flying.0 content_flying.1)
        (wider written.0 t.borrow) e (wide_old written.0 t.borrow)
      where
        q : Gh.Variable
        q = (flying I).0

        e_u : (E true).Θ in_flight ≡ Gh.live (faded q)
        e_u = (E true).lost refl q (flying I).1

        unheld : (h : Name) (m : Gh.Variable) (k : Place) → Holds (E true).Θ h m k → h ≢ var F.c → k.root ≢ p.root
        unheld in_flight m k K n j =
            let z : faded q ≡ m = (let a = e_u in let b = K.is in cc) in
            fade_none q.borrow k (ap (λ (y : Gh.Variable). borrowed y.borrow) z ∙ K.at)
        unheld in_drop m k K n j = vacant≢live (sym (E true).idle ∙ K.is)
        unheld (var y) m k K n j = other_unheld true y m k K n j

    judged_assign : Progress nv ns Γ (write Γ l.to t.borrow) none lv (run_assign s i p v)
    judged_assign = go (write_here Γ l.to t.borrow F.c F.d F.among written.0 written.1) (dec_lt (leading_boxes written.0.chain) written.0.moved_from)
      where
        go : (write Γ l.to t.borrow F.c ≡ live (fresh written.0.chain t.borrow written.0.level)) ⊎ (write Γ l.to t.borrow F.c ≡ live (wider written.0 t.borrow))
            → Dec (leading_boxes written.0.chain < written.0.moved_from) → Progress nv ns Γ (write Γ l.to t.borrow) none lv (run_assign s i p v)
        go (inl e) d = in_place (fresh written.0.chain t.borrow written.0.level) e (wide_same _) (omega arith)
        go (inr e) (yes g) = in_place (wider written.0 t.borrow) e (wide_new written.0 t.borrow written.4.cap) g
        go (inr e) (no g) = forgotten e (omega arith)

  conclude : (i : ℕ) (p : Place) (out : Out) (l : Located) (u : Ty) → named_later ns p.root ≡ true → named_later js p.root ≡ true → Used nv js ns out.0 → judge_place nv Γ i p ≡ ok l → u ≡ t
      → no_shared (take p.follows l.root.chain) ≡ true → drop p.follows l.root.chain ≡ u.links
      → every (λ (q : Place). lives_at Γ u.borrow (level_of (Γ q.root))) l.to ≡ true
      → write_barred nv js (write Γ l.to u.borrow) p.root ≡ false
      → ◌≡◌ {A = Result Refusal Out} (ok (write Γ l.to u.borrow, none)) (ok out)
      → Progress nv ns Γ out.0 out.1 lv (run_assign s i p v)
  conclude i p out l u nm nj H₀ e z unshared li lvl bar q =
      let y : (write Γ l.to t.borrow, none) ≡ out = (let q' = rw z at q in cc) in
      let R = judged_assign i p l (judged_found I i i p l nm e) nj (subst (λ (k : Out). Used nv js ns k.0) (sym y) H₀) unshared (rw z at li) (rw z at lvl) (rw z at bar) in
      subst (λ (k : Out). Progress nv ns Γ k.0 k.1 lv (run_assign s i p v)) y R

  case_assign : (i : ℕ) (p : Place) (out : Out) → named_later ns p.root ≡ true → named_later js p.root ≡ true → Used nv js ns out.0 → judge_assign nv js Γ i p (some t) ≡ ok out
      → Progress nv ns Γ out.0 out.1 lv (run_assign s i p v)
  unfolding judge_assign judge_write
  case_assign i p out nm nj H₀ h =
      let w = then (judge_write nv Γ i p (some t)) _ out h in
      let f = then (need (not (write_barred nv js w.0.0 p.root)) (35, i)) _ out w.2 in
      let a = then (valued (some t) (41, i)) _ w.0 w.1 in
      let tz : a.0 ≡ t = let k = was_valued _ _ _ a.1 in cc in
      let b = then (judge_place nv Γ i p) _ w.0 a.2 in
      let c = then (need (no_shared (take p.follows b.0.root.chain)) (36, i)) _ w.0 b.2 in
      let d = then (need (same_links (drop p.follows b.0.root.chain) a.0.links) (39, i)) _ w.0 c.2 in
      let e = then (need (every (λ (q : Place). lives_at Γ a.0.borrow (level_of (Γ q.root))) b.0.to) (40, i)) _ w.0 d.2 in
      let z : (write Γ b.0.to a.0.borrow, none) ≡ w.0 = let k = e.2 in cc in
      conclude i p out b.0 a.0 nm nj H₀ b.1 tz (needed _ _ _ c.1) (same_links_law _ _ (needed _ _ _ d.1)) (needed _ _ _ e.1)
      (subst (λ (k : Out). write_barred nv js k.0 p.root ≡ false) (sym z) (not-true _ (needed _ _ _ f.1))) (e.2 ∙ f.2)

module _ {nv : ℕ} {ns : Unfinished} {Γ : Environment} {lv : ℕ} {s : State} {v : Value} where
  pub after_assign : (js : Unfinished) (o : Option Ty) → Invariant nv ns Γ o lv s v → (i : ℕ) (p : Place) (out : Out) → named_later ns p.root ≡ true
      → named_later js p.root ≡ true → Used nv js ns out.0
      → judge_assign nv js Γ i p o ≡ ok out → Progress nv ns Γ out.0 out.1 lv (run_assign s i p v)
  unfolding judge_assign judge_write valued ◌>>=◌
  after_assign js none I i p out nm nj H₀ h = absurd (err≢ok h)
  after_assign js (some t) I i p out nm nj H₀ h = case_assign js I i p out nm nj H₀ h
