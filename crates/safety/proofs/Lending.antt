-- A whole place whose next link is shared: who lends there, and where the place goes on.
use Prim.Native.Nat.{ℕ, suc, ◌+◌, ◌-◌, ◌≤◌, ◌<◌}
use native.Mathlib.Omega.{arith}
use mathlib.Core.Path.{◌≡◌, refl, sym, ap, ◌∙◌, subst}
use mathlib.Core.Bool.{true, false≢true}
use mathlib.Core.Option.{none, some}
use mathlib.Core.List.{List, ◌∷◌}
use lib.ListN.{length, drop}
use Rattle.syntax.specs.Script.{Place}
use Rattle.statics.specs.Links.{Link, shared, leading_boxes}
use Rattle.statics.specs.Environment.{places, Variable, Slot, live, Environment, borrow_of, borrows_at}
use Rattle.statics.specs.Uses.{Unfinished, named_later}
use Rattle.statics.specs.Rules.{Located}
use Rattle.statics.specs.Neat.{place, Among}
use Rattle.dynamics.specs.Values.{empty}
use Rattle.dynamics.specs.Store.{State}
use Rattle.safety.proofs.Memory.{Name, var}
use Rattle.safety.proofs.Ghost as Gh
use Rattle.safety.proofs.Typing.{borrowed, is_exclusive, Fits, boxes, Reach, here, hop, Ref, Holds}
use Rattle.statics.proofs.LinkChains.{boxes_drop}
use Rattle.safety.proofs.Chains.{fits_down, fits_shared}
use Rattle.safety.proofs.Paths.{inv_hop}
use Rattle.safety.proofs.OnPath.{agreed}
use Rattle.safety.proofs.Known.{Known, by_name, by_holder, known_along}
use Rattle.safety.proofs.Certificates.{Whole, root_whole}
use Rattle.statics.proofs.SetLaws.{borrows_in}
use Rattle.safety.proofs.Covering.{BorrowIn, borrow_among, borrow_known, Covered, covered_back, covered_whole}
use Rattle.safety.proofs.Invariant.{Invariant}
use Rattle.safety.proofs.Finding.{along, Found, whole_along}

-- A path that passes a borrow link goes on from the place borrowed there: c holds q, and j follows from x lead to its borrow link.
pub beyond : {Γ : Name → Gh.Slot} {w c : Name} {d : ℕ} (W : Gh.Variable) (q : Place) {x : Name} {r j : ℕ} → Γ c ≡ Gh.live W → borrowed W.borrow ≡ some q
    → Reach Γ c (boxes W) x j → Reach Γ w d x r → j < r → Reach Γ w d (var q.root) (q.follows + (r - suc j))
beyond W q eW bq (here Q e a b) D l = inv_hop W q D eW bq l
beyond {Γ} {w} {c} {d} W q {x} {r} {j} eW bq (hop Q p e f a b E) D l =
    subst (λ (n : ℕ). Reach Γ w d (var q.root) (q.follows + n)) (omega arith)
    (beyond W q eW bq E (inv_hop {r = r} Q p D e f (omega arith)) (omega arith))

module _ {nv : ℕ} {ns : Unfinished} {Γ : Environment} {lv : ℕ} {s : State} (I : Invariant nv ns Γ none lv s empty) where
  -- The variable that a place leads to holds a place shared, and the judge knows.
  pub record Lender (p : Place) (l : Located) (i : ℕ) (F : Found I p l i) : Type 0 where
    pub W : Gh.Variable
    pub is : I.Θ (var F.c) ≡ Gh.live W
    pub whole : boxes W < W.moved_from
    pub at : F.d ≡ boxes W
    pub rest : drop p.follows F.X.chain ≡ drop (boxes W) W.chain
    pub q : Place
    pub lends : W.borrow ≡ Gh.shared_of q
    pub ref : Ref I.Θ I.H I.ρ I.rank (var F.c) W q
    pub recorded : Among q (borrows_at Γ l.to)
    pub known : Known ns I.Θ (var q.root)
    -- Nobody holds that root exclusively.
    pub alone : (y : Name) (B : Gh.Variable) (k : Place) → Holds I.Θ y B k → q.root ≡ k.root → is_exclusive B.borrow ≡ true → ⊥

  pub lender : (p : Place) (l : Located) (i : ℕ) (F : Found I p l i) (ks : List Link) → named_later ns p.root ≡ true → Whole Γ p.root l.root
      → drop p.follows l.root.chain ≡ shared ∷ ks → Lender p l i F
  unfolding leading_boxes borrow_of
  lender p l i F ks nm wh e = record {
    W = W;
    is = P.1;
    whole = P.3;
    at = dz;
    rest = agreed I.typed F.reach F.X W F.is_x P.1 ∙ ap (λ (k : ℕ). drop k W.chain) dz;
    q = f.0;
    lends = f.1;
    ref = (I.typed.at w W P.1).refs P.3 f.0 bq;
    recorded = borrows_in Γ f.0 (place F.c d) l.to F.among (subst (λ (n : Slot). Among f.0 (places (borrow_of n))) (sym C.1) (borrow_among B f.0 bq));
    known = by_holder W f.0 (known_along F.reach (by_name nm)) (record { is = P.1; whole = P.3; at = bq });
    alone = λ y A k L r x.
        let O : Holds I.Θ w W f.0 = record { is = P.1; whole = P.3; at = bq } in
        let z : y ≡ w = I.typed.exclusive y w A W k f.0 L O (sym r) x in
        let u : A ≡ W = let k1 = L.is in let k2 : I.Θ y ≡ I.Θ w = ap I.Θ z in let k3 = P.1 in cc in
        false≢true (ap is_exclusive (sym f.1) ∙ ap (λ (v : Gh.Variable). is_exclusive v.borrow) (sym u) ∙ x);
  }
    where
      P : (W : Gh.Variable) × (I.Θ (var F.c) ≡ Gh.live W) × (F.d ≤ boxes W) × (boxes W < W.moved_from)
      P = whole_along I F.reach F.X F.is_x (covered_whole F.cov_x (root_whole Γ p.root l.root F.is wh))

      W : Gh.Variable
      W = P.0

      w : Name
      w = var F.c

      d : ℕ
      d = F.d

      -- What stands there is whole for the judge too.
      M : (c : ℕ) × (m : ℕ) × (w ≡ var c) × (Among (place c m) wh.path.ps)
      M = along I wh.path F.reach p.root (length l.root.chain) refl F.long wh.path.start

      N : (u : Variable) × (Γ M.0 ≡ live u) × (leading_boxes u.chain < u.moved_from)
      N = wh.all (place M.0 M.1) M.3

      C : (v : Variable) × (Γ F.c ≡ live v) × (Covered (Known ns I.Θ (var F.c)) W v)
      C = covered_back (I.Θ w) (Γ F.c) W (I.vars F.c) P.1

      same : C.0 ≡ N.0
      same = let y : F.c ≡ M.0 = (let z = M.2 in cc) in let a : live C.0 ≡ live N.0 = sym C.1 ∙ ap Γ y ∙ N.1 in cc

      B : BorrowIn W.borrow C.0.borrow
      B = C.2.inside (known_along F.reach (by_name nm)) (subst (λ (k : Variable). leading_boxes k.chain < k.moved_from) (sym same) N.2)

      c : drop d W.chain ≡ shared ∷ ks
      c = sym (agreed I.typed F.reach F.X W F.is_x P.1) ∙ ap (λ (k : List Link). drop p.follows k) F.cov_x.chain ∙ e

      f : (q : Place) × (W.borrow ≡ Gh.shared_of q)
      f = fits_shared ks W.borrow (subst (λ (k : List Link). Fits k W.borrow) c (fits_down d W.chain W.borrow P.2 (I.typed.at w W P.1).fits)) (borrow_known B)

      bq : borrowed W.borrow ≡ some f.0
      bq = ap borrowed f.1

      dz : d ≡ boxes W
      dz =
          let z : d + leading_boxes (drop d W.chain) ≡ boxes W = boxes_drop d W.chain P.2 in
          let y : leading_boxes (drop d W.chain) ≡ 0 = ap leading_boxes c in
          omega arith
