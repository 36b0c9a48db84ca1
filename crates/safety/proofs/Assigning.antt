-- Assign, where the conditions hold: the old value is dropped while its row keeps it, then the new value is written.
use Prim.Native.Nat.{ℕ, ◌+◌, ◌-◌, ◌≤◌, ◌<◌, zero-le}
use native.Mathlib.Omega.{arith}
use mathlib.Core.Path.{◌≡◌, refl, sym, ap, ap₂, ◌∙◌, subst}
use mathlib.Core.Logic.{◌≢◌}
use mathlib.Core.Bool.{true}
use mathlib.Core.Option.{none, some}
use mathlib.Core.List.{List}
use lib.ListN.{take, drop}
use Rattle.syntax.specs.Result.{ok, ◌>>=◌}
use Rattle.syntax.specs.Script.{Place}
use Rattle.statics.specs.Links.{Link, leading_boxes, no_shared}
use Rattle.statics.specs.Environment.{Variable, used, live, Environment, Ty, update}
use Rattle.statics.specs.Uses.{Unfinished}
use Rattle.statics.specs.Rules.{Located}
use Rattle.statics.proofs.Slots.{used≢live}
use Rattle.statics.proofs.LinkChains.{boxes_drop}
use Rattle.dynamics.specs.Values.{Location, cell, Value, empty, closed, open_with}
use Rattle.dynamics.specs.Store.{Store, put, is_open, State, with_store}
use Rattle.dynamics.specs.Locate.{locate}
use Rattle.dynamics.specs.Drop.{drop_value}
use Rattle.dynamics.specs.Run.{run_assign}
use Rattle.dynamics.proofs.StoreLaws.{put_other}
use Rattle.safety.proofs.Memory.{Name, in_flight, in_drop, var, Spot, top, in_cell, Content, no_row, has, name_dec, p_empty, Memory, var≢flight, var≢drop, drop≢flight, row_open, top_only}
use Rattle.safety.proofs.NameMaps.{upd, upd_same, upd_other}
use Rattle.safety.proofs.Lifted.{spot_of, lift, lift_at, lift_other, lift_same, lift_drop, lift_flight, lift_agree}
use Rattle.safety.proofs.Transfer.{moved, moved_low, moved_other, transfer}
use Rattle.safety.proofs.Naming.{open_name, close_name}
use Rattle.safety.proofs.Dropping.{Gone, dropped}
use Rattle.safety.proofs.Ghost.{vacant}
use Rattle.safety.proofs.Ghost as Gh
use Rattle.safety.proofs.Typing.{borrowed, boxes, Reach, Holds, Typed}
use Rattle.safety.proofs.Paths.{end_live, has_row}
use Rattle.safety.proofs.OnPath.{agreed}
use Rattle.safety.proofs.Writing.{written}
use Rattle.safety.proofs.Known.{Known}
use Rattle.safety.proofs.Covering.{Covered, covers, vacant≢live, vac_covers, covers_less}
use Rattle.safety.proofs.Invariant.{nobody, Invariant, drop_no_row}
use Rattle.safety.proofs.Finding.{Found}
use Rattle.safety.proofs.Progress.{Progress}
use Rattle.safety.proofs.OneChanged.{levels_update, deep_update, scope_update, stay_update, lives_update, vars_update}

-- The proof's environment with the value in flight written to w.
abbrev pub assigned : (Name → Gh.Slot) → Name → Gh.Variable → Name → Gh.Slot
assigned Θ w W = upd (upd Θ w (Gh.live W)) in_flight vacant

run_assign_law : (s : State) (i : ℕ) (p : Place) (v u : Value) (loc : Location) (A : Store) → locate s i p ≡ ok loc → s.store loc ≡ open_with u
    → drop_value i s u ≡ ok (with_store s A) → A loc ≡ open_with u → run_assign s i p v ≡ ok (with_store s (put A loc (open_with v)), empty)
unfolding run_assign is_open ◌>>=◌
run_assign_law s i p v u loc A e h d k = rw (e, h, d, k) refl

module _ {nv : ℕ} {ns : Unfinished} {Γ : Environment} {t : Ty} {lv : ℕ} {s : State} {v : Value} (I : Invariant nv ns Γ (some t) lv s v) where
  module _ (i : ℕ) (p : Place) (l : Located) (F : Found I p l i) (V₀ : Variable) (eV : Γ F.c ≡ live V₀) (W : Gh.Variable) (eW : I.Θ (var F.c) ≡ Gh.live W) (cW : Covered (Known ns I.Θ (var F.c)) W V₀)
      (unshared : no_shared (take p.follows l.root.chain) ≡ true) (links : drop p.follows l.root.chain ≡ t.links)
      -- The proof's environment, in which names may have forgotten what they borrow that are not on the path.
      (Θ₀ : Name → Gh.Slot) (T₀ : Typed nv nobody Θ₀ I.H I.ρ I.rank) (D : Reach Θ₀ (var F.c) F.d (var p.root) p.follows)
      (eX₀ : Θ₀ (var p.root) ≡ Gh.live F.X) (eW₀ : Θ₀ (var F.c) ≡ Gh.live W) (idle₀ : Θ₀ in_drop ≡ vacant)
      (U : Gh.Variable) (e_u : Θ₀ in_flight ≡ Gh.live U) (cU : U.chain ≡ t.links) (wU : boxes U < U.moved_from)
      (lvl : (k : Place) (R : Gh.Variable) → borrowed U.borrow ≡ some k → Θ₀ (var k.root) ≡ Gh.live R → R.level ≤ V₀.level)
      (unheld : (h : Name) (q : Gh.Variable) (k : Place) → Holds Θ₀ h q k → h ≢ var F.c → k.root ≢ p.root)
      (N : Variable) (cN : N.chain ≡ V₀.chain) (lN : N.level ≡ V₀.level)
      (cov : Covered (Known ns (assigned Θ₀ (var F.c) (Gh.fresh W.chain U.borrow W.level)) (var F.c)) (Gh.fresh W.chain U.borrow W.level) N)
      (others : (y : ℕ) → y ≢ F.c → covers (Known ns (assigned Θ₀ (var F.c) (Gh.fresh W.chain U.borrow W.level)) (var y)) (Θ₀ (var y)) (Γ y))
      (u₀ : Value) (Ht : I.H in_flight ≡ has (leading_boxes t.links) u₀) where
    pub assigning : Progress nv ns Γ (update Γ F.c (live N)) none lv (run_assign s i p v)
    assigning =
        record {
          s = with_store s (put G.A' loc (open_with v));
          v = empty;
          ran = run_assign_law s i p v u loc G.A' F.run Su G.ran (G.kept_a loc refl ∙ Su);
          inv = record {
            Θ = Θ₁;
            H = H₅;
            ρ = ρ₅;
            rank = T.0;
            mem = m₅;
            typed = T.1;
            nothing = λ e. refl;
            vars = vars_update I w₀ V₀ N eV lN cN Θ₁ W' Θ₁w cov (λ y n. covers_less (Θ₁ (var y)) (Θ₀ (var y)) (Γ y) (λ k. k) (Θ₁z (var y) (λ e. n (cc)) var≢flight) (others y n));
            flight = vac_covers (Θ₁ in_flight) used (upd_same (upd Θ₀ w (Gh.live W')) in_flight vacant) (λ v e. used≢live e);
            idle = Θ₁z in_drop (λ e. wo (sym e)) drop≢flight ∙ idle₀;
            deep = deep_update I w₀ V₀ N eV lN cN;
            scope = scope_update I w₀ V₀ N eV lN cN;
          };
          keep = λ y q e k. levels_update I w₀ V₀ N eV lN cN y q e;
          stay = stay_update I w₀ V₀ N eV lN cN;
          lives = lives_update I w₀ V₀ N eV lN cN;
        }
      where
        S : Store
        S = s.store

        w₀ : ℕ
        w₀ = F.c

        w : Name
        w = var w₀

        d : ℕ
        d = F.d

        loc : Location
        loc = F.loc

        W' : Gh.Variable
        W' = Gh.fresh W.chain U.borrow W.level

        EL : (d ≤ boxes W) × (d ≤ W.moved_from)
        EL = let e = end_live F.reach in let z : e.0 ≡ W = let k = e.1 in let j = eW in cc in (rw z at e.2, rw z at e.3)

        wo : w ≢ in_drop
        wo e = var≢drop e

        wt : w ≢ in_flight
        wt e = var≢flight e

        to : in_flight ≢ in_drop
        to e = drop≢flight (sym e)

        Z : (n : ℕ) × (k : Value) × (I.H w ≡ has n k) × (d ≤ n)
        Z = has_row s (open_with v) closed i I.mem I.typed w W d eW EL.0 EL.1

        n₀ : ℕ
        n₀ = Z.0

        v₀ : Value
        v₀ = Z.1

        O : (u : Value) × (lift S (open_with v) closed (I.ρ w d) ≡ open_with u)
        O = row_open I.mem w n₀ v₀ d Z.2 Z.3

        u : Value
        u = O.0

        Su : S loc ≡ open_with u
        Su = sym (lift_at S (open_with v) closed loc) ∙ ap (λ (k : Spot). lift S (open_with v) closed k) F.row ∙ O.1

        -- The old value gets the name of what is being dropped.
        H₁ : Name → Content
        H₁ = upd I.H in_drop (has 0 empty)

        m₁ : Memory H₁ (lift S (open_with v) (open_with empty)) s.taken I.ρ
        m₁ = open_name I.mem in_drop empty p_empty (drop_no_row I) H₁ (upd_same I.H in_drop _) (λ z k. upd_other I.H in_drop _ z k) (lift S (open_with v) (open_with empty)) refl (λ q k. lift_drop S (open_with v) (open_with empty) closed q k)

        H₂ : Name → Content
        H₂ = upd (upd H₁ w (has d empty)) in_drop (has (0 + (n₀ - d)) v₀)

        ρ₂ : Name → ℕ → Spot
        ρ₂ = moved I.ρ w d in_drop 0

        row_old : I.ρ w d ≢ top in_drop
        row_old e = wo (top_only I.mem w in_drop n₀ v₀ d Z.2 Z.3 e)

        H₂w : H₂ w ≡ has d empty
        H₂w = upd_other (upd H₁ w (has d empty)) in_drop _ w wo ∙ upd_same H₁ w _

        m₂ : Memory H₂ (lift (put S loc (open_with empty)) (open_with v) (open_with u)) s.taken ρ₂
        m₂ = transfer m₁ w in_drop d 0 n₀ v₀ (upd_other I.H in_drop _ w wo ∙ Z.2) Z.3 (upd_same I.H in_drop _) wo
            H₂ H₂w (upd_same (upd H₁ w (has d empty)) in_drop _)
            (λ z a b. upd_other (upd H₁ w (has d empty)) in_drop _ z b ∙ upd_other H₁ w _ z a)
            (lift (put S loc (open_with empty)) (open_with v) (open_with u))
            (ap (λ (k : Spot). lift (put S loc (open_with empty)) (open_with v) (open_with u) k) (sym F.row) ∙ lift_same S loc (open_with empty) (open_with v) (open_with u))
            (ap (λ (k : Spot). lift (put S loc (open_with empty)) (open_with v) (open_with u) k) (I.mem.base in_drop) ∙ sym O.1 ∙ lift_drop S (open_with v) closed (open_with empty) (I.ρ w d) row_old)
            (λ q a b. lift_other S loc (open_with empty) (open_with v) (open_with u) q (λ e. a (e ∙ F.row)) ∙ lift_drop S (open_with v) (open_with u) (open_with empty) q (λ e. b (e ∙ sym (I.mem.base in_drop))))

        -- It is dropped, while the row keeps it: the run's store and the proof's differ there.
        X : Location → Type 0
        X k = k ≡ loc

        ρ₂w : ρ₂ w d ≡ I.ρ w d
        ρ₂w = moved_other I.ρ w d in_drop 0 w d wo

        no_x : (c j : ℕ) → X (cell c) → j ≤ 0 + (n₀ - d) → ρ₂ in_drop j ≢ in_cell c
        no_x c j x h e =
            let k = m₂.distinct in_drop w (0 + (n₀ - d)) d v₀ empty j d (upd_same (upd H₁ w (has d empty)) in_drop _) h H₂w (omega arith) (e ∙ ap spot_of x ∙ F.row ∙ sym ρ₂w) in
            wo (sym k.0)

        G : Gone H₂ (open_with v) ρ₂ X S (put S loc (open_with empty)) i s u
        G =
            dropped i s H₂ (open_with v) ρ₂ (put S loc (open_with empty)) u v₀ (0 + (n₀ - d)) m₂ (upd_same (upd H₁ w (has d empty)) in_drop _) X S I.mem.untaken
            (λ k n. sym (put_other S loc (open_with empty) k n)) no_x

        -- The new value takes its place.
        H₃w : G.H' w ≡ has d empty
        H₃w = G.same_h w wo ∙ H₂w

        H₃t : G.H' in_flight ≡ has (leading_boxes t.links) u₀
        H₃t =
            G.same_h in_flight to ∙ upd_other (upd H₁ w (has d empty)) in_drop _ in_flight to ∙ upd_other H₁ w _ in_flight (λ e. wt (sym e))
            ∙ upd_other I.H in_drop _ in_flight to ∙ Ht

        H₄ : Name → Content
        H₄ = upd (upd G.H' in_flight (has 0 empty)) w (has (d + (leading_boxes t.links - 0)) u₀)

        ρ₅ : Name → ℕ → Spot
        ρ₅ = moved G.ρ' in_flight 0 w d

        ρ₃w : (j : ℕ) → G.ρ' w j ≡ I.ρ w j
        ρ₃w j = G.sameρ w j wo ∙ moved_other I.ρ w d in_drop 0 w j wo

        B : Store
        B = put G.A' loc (open_with v)

        H₄t : H₄ in_flight ≡ has 0 empty
        H₄t = upd_other (upd G.H' in_flight (has 0 empty)) w _ in_flight (λ e. wt (sym e)) ∙ upd_same G.H' in_flight _

        m₄ : Memory H₄ (lift B (open_with empty) closed) s.taken ρ₅
        m₄ = transfer G.mem in_flight w 0 d (leading_boxes t.links) u₀ H₃t zero-le H₃w (λ e. wt (sym e))
            H₄ H₄t (upd_same (upd G.H' in_flight (has 0 empty)) w _)
            (λ z a b. upd_other (upd G.H' in_flight (has 0 empty)) w _ z b ∙ upd_other G.H' in_flight _ z a)
            (lift B (open_with empty) closed)
            (ap (λ (k : Spot). lift B (open_with empty) closed k) (G.mem.base in_flight))
            (ap (λ (k : Spot). lift B (open_with empty) closed k) (ρ₃w d ∙ sym F.row) ∙ lift_same G.A' loc (open_with v) (open_with empty) closed ∙ sym (ap (λ (k : Spot). lift G.S' (open_with v) closed k) (G.mem.base in_flight)))
            (λ q a b. lift_other G.A' loc (open_with v) (open_with empty) closed q (λ e. b (e ∙ F.row ∙ sym (ρ₃w d)))
            ∙ lift_flight G.A' (open_with empty) (open_with v) closed q (λ e. a (e ∙ sym (G.mem.base in_flight)))
            ∙ lift_agree G.A' G.S' loc (open_with v) closed q G.agree (λ e. b (e ∙ F.row ∙ sym (ρ₃w d))))

        H₅ : Name → Content
        H₅ = upd H₄ in_flight no_row

        m₅ : Memory H₅ (lift B closed closed) s.taken ρ₅
        m₅ = close_name m₄ in_flight empty H₄t H₅ (upd_same H₄ in_flight no_row) (λ z k. upd_other H₄ in_flight no_row z k) (lift B closed closed) refl (λ q k. lift_flight B closed (open_with empty) closed q k)

        -- And so on the typing layer.
        Θ₁ : Name → Gh.Slot
        Θ₁ = assigned Θ₀ w W'

        Θ₁w : Θ₁ w ≡ Gh.live W'
        Θ₁w = upd_other (upd Θ₀ w (Gh.live W')) in_flight vacant w wt ∙ upd_same Θ₀ w (Gh.live W')

        Θ₁z : (z : Name) → z ≢ w → z ≢ in_flight → Θ₁ z ≡ Θ₀ z
        Θ₁z z a b = upd_other (upd Θ₀ w (Gh.live W')) in_flight vacant z b ∙ upd_other Θ₀ w (Gh.live W') z a

        links' : drop p.follows F.X.chain ≡ U.chain
        links' = ap (λ (k : List Link). drop p.follows k) F.cov_x.chain ∙ links ∙ sym cU

        sizes : d + leading_boxes t.links ≡ boxes W
        sizes =
            ap (λ (k : List Link). d + leading_boxes k) (sym (sym (agreed I.typed F.reach F.X W F.is_x eW) ∙ links' ∙ cU))
            ∙ boxes_drop d W.chain EL.0

        T : (rank : Name → ℕ) × Typed nv nobody Θ₁ H₅ ρ₅ rank
        T = written T₀ p.root p.follows w d F.X W U D eX₀ eW₀ e_u wU (rw F.cov_x.chain unshared) links' EL.0
            (λ k R e f. subst (λ (y : ℕ). R.level ≤ y) (sym cW.level) (lvl k R e f)) unheld
            Θ₁ Θ₁w (λ q e. vacant≢live (sym (upd_same (upd Θ₀ w (Gh.live W')) in_flight vacant) ∙ e)) Θ₁z
            H₅ (λ v' h. let q : has (leading_boxes t.links) u₀ ≡ has (boxes U) v' = sym (Ht) ∙ h in let z : u₀ ≡ v' = cc in
            upd_other H₄ in_flight no_row w wt ∙ upd_same (upd G.H' in_flight (has 0 empty)) w _ ∙ ap₂ has (omega (arith, sizes)) z)
            (upd_same H₄ in_flight no_row)
            (λ z a b. upd_other H₄ in_flight no_row z b ∙ upd_other (upd G.H' in_flight (has 0 empty)) w _ z a ∙ upd_other G.H' in_flight _ z b ∙ rest z a b)
            ρ₅ (λ z j a b c. moved_other G.ρ' in_flight 0 w d z j a ∙ G.sameρ z j c ∙ moved_other I.ρ w d in_drop 0 z j c)
            (λ j h. moved_low G.ρ' in_flight 0 w d w j h ∙ ρ₃w j)
          where
            rest : (z : Name) → z ≢ w → z ≢ in_flight → G.H' z ≡ I.H z
            rest z a b = go (name_dec z in_drop)
              where
                go : Dec (z ≡ in_drop) → G.H' z ≡ I.H z
                go (yes e) = ap G.H' e ∙ G.out ∙ sym (ap I.H e ∙ drop_no_row I)
                go (no e) = G.same_h z e ∙ upd_other (upd H₁ w (has d empty)) in_drop _ z e ∙ upd_other H₁ w _ z a ∙ upd_other I.H in_drop _ z e
