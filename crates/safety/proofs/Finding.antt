-- Where a place leads that the judge has passed: in the proof's environment, and in the store.
use Prim.Native.Nat.{ℕ, zero, suc, ◌+◌, ◌-◌, ◌≤◌, ◌<◌}
use native.Mathlib.Omega.{arith}
use mathlib.Core.Path.{◌≡◌, refl, sym, ap, ◌∙◌, subst}
use mathlib.Core.Logic.{◌⊎◌, inl, inr}
use mathlib.Core.Bool.{true}
use mathlib.Core.Option.{Option, none}
use mathlib.Core.List.{List, []}
use lib.ListN.{length, drop}
use Rattle.syntax.specs.Result.{ok}
use Rattle.syntax.specs.Script.{Place}
use Rattle.statics.specs.Links.{Link, leading_boxes}
use Rattle.statics.specs.Environment.{Variable, live, Environment, Ty}
use Rattle.statics.specs.Uses.{Unfinished}
use Rattle.statics.specs.Follow.{is_borrow}
use Rattle.statics.specs.Rules.{Located}
use Rattle.statics.specs.Neat.{place, Among}
use Rattle.statics.proofs.LinkChains.{boxes_drop}
use Rattle.dynamics.specs.Values.{Location, Value, empty, num, Row, closed, open_with}
use Rattle.dynamics.specs.Store.{State}
use Rattle.dynamics.specs.Locate.{locate}
use Rattle.safety.proofs.Memory.{Name, var, Spot, Plain, p_num}
use Rattle.safety.proofs.Lifted.{spot_of, lift, lift_at}
use Rattle.safety.proofs.Ghost as Gh
use Rattle.safety.proofs.Typing.{Fits, boxes, Reach, here, hop}
use Rattle.safety.proofs.Chains.{fits_down, fits_nil}
use Rattle.safety.proofs.Paths.{located}
use Rattle.safety.proofs.OnPath.{agreed}
use Rattle.safety.proofs.Known.{Known, by_holder}
use Rattle.safety.proofs.Certificates.{Path, Own, Passed, Whole, root_whole}
use Rattle.safety.proofs.Covering.{borrow_among, borrow_some, Covered, covered_live, covered_back, covered_whole}
use Rattle.safety.proofs.Invariant.{flight_row, Invariant}

module _ {nv : ℕ} {ns : Unfinished} {Γ : Environment} {o : Option Ty} {lv : ℕ} {s : State} {v : Value} (I : Invariant nv ns Γ o lv s v) where
  -- The proof's way through what the judge has met.
  abbrev pub Goes : {p : Place} → Path Γ p → ℕ → ℕ → Type 0
  Goes P x r =
      (c : ℕ) × (d : ℕ) × (Reach I.Θ (var c) d (var x) r) × (Among (place c d) P.ps) × (v : Variable) × (Γ c ≡ live v) × (d ≤ leading_boxes v.chain)

  goes_at : {p : Place} (P : Path Γ p) → ((q : Place) → Among q P.ps → Own Γ q) → (x r : ℕ) → Known ns I.Θ (var x) → Among (place x r) P.ps
      → ((y m : ℕ) → I.rank (var y) < I.rank (var x) → Known ns I.Θ (var y) → Among (place y m) P.ps → Goes P y m) → Goes P x r
  goes_at P ow x r kn i ih = let O = ow (place x r) i in go O.v O.is O.at
    where
      go : (v : Variable) → Γ x ≡ live v
          → ((r ≤ leading_boxes v.chain) × (r ≤ v.moved_from)) ⊎ ((leading_boxes v.chain < r) × (leading_boxes v.chain < v.moved_from) × (is_borrow v.borrow ≡ true))
          → Goes P x r
      go v e (inl k) =
          let C = covered_live (I.Θ (var x)) (Γ x) v (I.vars x) e in
          let n : boxes C.0 ≡ leading_boxes v.chain = ap leading_boxes C.2.chain in
          let l = k.0 in
          let g = C.2.less in
          (x, r, here C.0 C.1 (omega arith) (omega (arith, k.1)), i, v, e, k.0)
      go v e (inr k) =
          let C = covered_live (I.Θ (var x)) (Γ x) v (I.vars x) e in
          let n : boxes C.0 ≡ leading_boxes v.chain = ap leading_boxes C.2.chain in
          let B = C.2.inside kn k.1 in
          let t = borrow_some B k.2 in
          let m = borrow_among B t.0 t.1 in
          let j = P.on (place x r) v t.0 i e k.0 m in
          let w = covered_whole C.2 k.1 in
          let R = (I.typed.at (var x) C.0 C.1).refs w t.0 t.1 in
          let L = ih t.0.root (t.0.follows + (r - suc (leading_boxes v.chain))) R.lower (by_holder C.0 t.0 kn (record { is = C.1; whole = w; at = t.1 })) j in
          (L.0, L.1, hop {r = r} C.0 t.0 C.1 t.1 w (omega (arith, k.0)) (subst (λ (c : ℕ). Reach I.Θ (var L.0) L.1 (var t.0.root) (t.0.follows + (r - suc c))) (sym n) L.2), L.3, L.4, L.5, L.6)

  pub goes : {p : Place} (P : Path Γ p) → ((q : Place) → Among q P.ps → Own Γ q) → (n x r : ℕ) → I.rank (var x) < n → Known ns I.Θ (var x)
      → Among (place x r) P.ps → Goes P x r
  goes P ow zero x r h kn i = absurd (omega arith)
  goes P ow (suc n) x r h kn i = goes_at P ow x r kn i (λ y m k kn' j. goes P ow n y m (omega arith) kn' j)

  -- A longer way meets the end of a shorter one.
  pub along : {w : Name} {d : ℕ} {y : Name} {r : ℕ} {p : Place} (P : Path Γ p) → Reach I.Θ w d y r → (k n : ℕ) → y ≡ var k → r ≤ n → Among (place k n) P.ps
      → (c : ℕ) × (m : ℕ) × (w ≡ var c) × (Among (place c m) P.ps)
  along P (here Q e a b) k n q l i = (k, n, q, i)
  along {r} P (hop Q p e f a b D) k n q l i =
      let C = covered_back (I.Θ (var k)) (Γ k) Q (I.vars k) (ap I.Θ (sym q) ∙ e) in
      let H = C.2.holds p f a in
      let z : boxes Q ≡ leading_boxes C.0.chain = ap leading_boxes C.2.chain in
      along P D p.root (p.follows + (n - suc (leading_boxes C.0.chain))) refl (omega arith)
      (P.on (place k n) C.0 p i C.1 (omega arith) (borrow_among H.1 p f))

  -- A place that the judge has passed: where it leads, and where the run finds it.
  pub record Found (p : Place) (l : Located) (i : ℕ) : Type 0 where
    pub is : Γ p.root ≡ live l.root
    pub long : p.follows ≤ length l.root.chain
    pub X : Gh.Variable
    pub is_x : I.Θ (var p.root) ≡ Gh.live X
    pub cov_x : Covered (Known ns I.Θ (var p.root)) X l.root
    pub c : ℕ
    pub d : ℕ
    pub reach : Reach I.Θ (var c) d (var p.root) p.follows
    pub among : Among (place c d) l.to
    pub loc : Location
    pub row : spot_of loc ≡ I.ρ (var c) d
    pub run : locate s i p ≡ ok loc

  pub found : (i : ℕ) (p : Place) (l : Located) → Known ns I.Θ (var p.root) → Passed Γ p l → Found p l i
  unfolding locate
  found i p l kn a =
      let C = covered_live (I.Θ (var p.root)) (Γ p.root) l.root (I.vars p.root) a.is in
      let G = goes a.path a.own (suc (I.rank (var p.root))) p.root p.follows (omega arith) kn a.path.start in
      let R = located s (flight_row o v) closed i I.mem I.typed p.root p.follows (var G.0) G.1 G.2 in
      record {
        is = a.is;
        long = a.long;
        X = C.0;
        is_x = C.1;
        cov_x = C.2;
        c = G.0;
        d = G.1;
        reach = G.2;
        among = a.to (place G.0 G.1) G.4 G.3 G.5 G.6;
        loc = R.0;
        row = R.1;
        run = R.2;
      }

module _ {nv : ℕ} {ns : Unfinished} {Γ : Environment} {lv : ℕ} {s : State} (I : Invariant nv ns Γ none lv s empty) where
  -- Where a whole root leads is whole.
  pub whole_along : {w : Name} {d : ℕ} {x : Name} {r : ℕ} (D : Reach I.Θ w d x r) (q : Gh.Variable) → I.Θ x ≡ Gh.live q → boxes q < q.moved_from
      → (W : Gh.Variable) × (I.Θ w ≡ Gh.live W) × (d ≤ boxes W) × (boxes W < W.moved_from)
  whole_along (here Q e a b) q h g = let z : Q ≡ q = cc in (Q, e, a, rw z g)
  whole_along {w} {d} {x} (hop Q p e f a b D) q h g =
      let K = (I.typed.at x Q e).refs a p f in
      whole_along D K.W K.is K.whole

  pub reads : (loc : Location) (q : Spot) (r : Row) → spot_of loc ≡ q → lift s.store closed closed q ≡ r → s.store loc ≡ r
  reads loc q r e h = sym (lift_at s.store closed closed loc) ∙ ap (λ (k : Spot). lift s.store closed closed k) e ∙ h

  -- The end of a place that is a number.
  pub number_there : (p : Place) (l : Located) (i : ℕ) → Found I p l i → Whole Γ p.root l.root → drop p.follows l.root.chain ≡ []
      → (n : ℕ) × (Plain (num n)) × ((loc : Location) → locate s i p ≡ ok loc → s.store loc ≡ open_with (num n))
  unfolding leading_boxes
  number_there p l i F wh e =
      let Q = whole_along F.reach F.X F.is_x (covered_whole F.cov_x (root_whole Γ p.root l.root F.is wh)) in
      let W = Q.0 in
      let w = var F.c in
      let d = F.d in
      let g : drop d W.chain ≡ [] = sym (agreed I.typed F.reach F.X W F.is_x Q.1) ∙ ap (λ (k : List Link). drop p.follows k) F.cov_x.chain ∙ e in
      let z : d + leading_boxes (drop d W.chain) ≡ boxes W = boxes_drop d W.chain Q.2 in
      let y : leading_boxes (drop d W.chain) ≡ 0 = ap leading_boxes g in
      let A = I.typed.at w W Q.1 in
      let N = A.number Q.3 (fits_nil W.borrow (subst (λ (k : List Link). Fits k W.borrow) g (fits_down d W.chain W.borrow Q.2 A.fits))) in
      let dz : d ≡ boxes W = omega arith in (
        N.0,
        p_num N.0,
        λ loc h.
            let u : F.loc ≡ loc = let k = F.run in cc in
            rw (← u) (reads F.loc (I.ρ w (boxes W)) (open_with (num N.0)) (F.row ∙ ap (λ (k : ℕ). I.ρ w k) dz) (I.mem.leaf w (boxes W) (num N.0) N.1)),
      )
