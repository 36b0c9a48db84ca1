-- Assigning, on the typing layer: the value in flight goes to own link d of w, to which r follows from x₀ lead.
-- On the way every link passed is exclusive (36), so each variable on the path but the first is held by the one before it alone. With the
-- new value in place nobody holds the first (35). So whoever is off the path holds nothing on it, and keeps what it holds; and what the
-- new value borrows is off the path, so that no circle arises.
use Prim.Native.Nat.{ℕ, suc, ◌+◌, ◌-◌, ◌≤◌, ◌<◌}
use native.Mathlib.Omega.{arith}
use native.Mathlib.Decide.{dec_le}
use mathlib.Core.Path.{◌≡◌, refl, sym, ap, ap₂, ◌∙◌, subst}
use mathlib.Core.Logic.{◌≢◌, ◌⊎◌, inl, inr}
use mathlib.Core.Bool.{true}
use mathlib.Core.Option.{some}
use mathlib.Core.List.{List}
use lib.ListN.{take, drop}
use Rattle.syntax.specs.Script.{Place}
use Rattle.statics.specs.Links.{Link, leading_boxes, no_shared}
use Rattle.statics.proofs.LinkChains.{drop_add, boxes_drop}
use Rattle.dynamics.specs.Values.{Value, num, reference}
use Rattle.statics.proofs.Choose.{choose, choose_yes, choose_no}
use Rattle.safety.proofs.Memory.{Name, in_flight, in_drop, var, Spot, Content, no_row, has, name_dec, var≢flight, var≢drop}
use Rattle.safety.proofs.Ghost.{Variable, Slot, live, fresh}
use Rattle.safety.proofs.Typing.{borrowed, is_exclusive, boxes, Reach, here, hop, Ref, At, Holds, Typed, avoid_back, at_off}
use Rattle.safety.proofs.Chains.{fits_up}
use Rattle.safety.proofs.Paths.{inv_here, inv_hop, unique, prefix}
use Rattle.safety.proofs.OnPath.{On, on_dec, on_end, on_var, agreed, ranked, Pred, pred, next_on}

module _ {nv : ℕ} {G : Name → Type 0} {Γ : Name → Slot} {H : Name → Content} {ρ : Name → ℕ → Spot} {rank : Name → ℕ} (T : Typed nv G Γ H ρ rank)
    -- The place, the variable that it leads to, and the value in flight, U.
    (x₀ r : ℕ) (w : Name) (d : ℕ) (X W U : Variable) (D : Reach Γ w d (var x₀) r)
    (eX : Γ (var x₀) ≡ live X) (eW : Γ w ≡ live W) (e_u : Γ in_flight ≡ live U) (wU : boxes U < U.moved_from)
    -- 36, 39, 40 and 35.
    (unsharedX : no_shared (take r X.chain) ≡ true) (links : drop r X.chain ≡ U.chain)
    (dW : d ≤ boxes W)
    (lvl : (p : Place) (R : Variable) → borrowed U.borrow ≡ some p → Γ (var p.root) ≡ live R → R.level ≤ W.level)
    (unheld : (h : Name) (Q : Variable) (p : Place) → Holds Γ h Q p → h ≢ w → p.root ≢ x₀)
    -- Afterwards w has the value and is whole, and nothing is in flight.
    (Γ' : Name → Slot) (Γ'w : Γ' w ≡ live (fresh W.chain U.borrow W.level)) (Γ't : (Q : Variable) → Γ' in_flight ≢ live Q) (Γ'z : (z : Name) → z ≢ w → z ≢ in_flight → Γ' z ≡ Γ z)
    (H' : Name → Content) (H'w : (v : Value) → H in_flight ≡ has (boxes U) v → H' w ≡ has (boxes W) v) (H't : H' in_flight ≡ no_row) (H'z : (z : Name) → z ≢ w → z ≢ in_flight → H' z ≡ H z)
    (ρ' : Name → ℕ → Spot) (ρ'z : (z : Name) (i : ℕ) → z ≢ w → z ≢ in_flight → z ≢ in_drop → ρ' z i ≡ ρ z i) (ρ'w : (i : ℕ) → i ≤ d → ρ' w i ≡ ρ w i) where
  -- The names that change or may: those on the path, what is in flight, what is being dropped.
  abbrev Touched : Name → Type 0
  Touched z = On D z ⊎ (z ≡ in_flight ⊎ z ≡ in_drop)

  flight_off : On D in_flight → ⊥
  flight_off o = let k = on_var D x₀ refl in_flight o in var≢flight (sym k.1)

  drop_off : On D in_drop → ⊥
  drop_off o = let k = on_var D x₀ refl in_drop o in var≢drop (sym k.1)

  w_drop : w ≢ in_drop
  w_drop e = drop_off (subst (λ (z : Name). On D z) e (on_end D))

  -- Whoever is off the path holds nothing on it: not x₀, by 35, and no other, which its one holder on the path holds exclusively.
  off_path : (h : Name) (Q : Variable) (p : Place) → Holds Γ h Q p → (On D h → ⊥) → On D (var p.root) → ⊥
  unfolding Pred
  off_path h Q p K n o = go (pred T D X eX unsharedX (var p.root) o)
    where
      go : (var p.root ≡ var x₀) ⊎ Pred T D (var p.root) → ⊥
      go (inl e) = unheld h Q p K (λ q. n (subst (λ (z : Name). On D z) (sym q) (on_end D))) (cc)
      go (inr u) =
          let e : u.0 ≡ h = T.exclusive u.0 h u.1 Q u.2 p u.3 K (let q = u.5 in cc) u.6 in
          n (subst (λ (z : Name). On D z) e u.4)

  same : (z : Name) → (Touched z → ⊥) → Γ' z ≡ Γ z
  same z h = Γ'z z (λ e. h (inl (subst (λ (y : Name). On D y) (sym e) (on_end D)))) (λ e. h (inr (inl e)))

  shut : (x : Name) (Q : Variable) (p : Place) → Holds Γ x Q p → (Touched x → ⊥) → Touched (var p.root) → ⊥
  shut x Q p K h (inl o) = off_path x Q p K (λ q. h (inl q)) o
  shut x Q p K h (inr (inl e)) = var≢flight e
  shut x Q p K h (inr (inr e)) = var≢drop e

  -- What the value in flight borrows is off the path.
  borrowed_off : (p : Place) → borrowed U.borrow ≡ some p → Touched (var p.root) → ⊥
  borrowed_off p q (inl o) = off_path in_flight U p (record { is = e_u; whole = wU; at = q }) flight_off o
  borrowed_off p q (inr (inl e)) = var≢flight e
  borrowed_off p q (inr (inr e)) = var≢drop e

  -- Ranks on the path rise above that of the value in flight.
  rank' : Name → ℕ
  rank' z = choose (on_dec D z) (rank z + suc (rank in_flight)) (rank z)

  rank_off : (z : Name) → (Touched z → ⊥) → rank' z ≡ rank z
  unfolding rank'
  rank_off z h = choose_no (on_dec D z) _ _ (λ o. h (inl o))

  rank_on : (z : Name) → On D z → rank' z ≡ rank z + suc (rank in_flight)
  unfolding rank'
  rank_on z o = choose_yes (on_dec D z) _ _ o

  H-off : (z : Name) → (Touched z → ⊥) → H' z ≡ H z
  H-off z h = H'z z (λ e. h (inl (subst (λ (y : Name). On D y) (sym e) (on_end D)))) (λ e. h (inr (inl e)))

  ρ-off : (z : Name) (i : ℕ) → (Touched z → ⊥) → ρ' z i ≡ ρ z i
  ρ-off z i h = ρ'z z i (λ e. h (inl (subst (λ (y : Name). On D y) (sym e) (on_end D)))) (λ e. h (inr (inl e))) (λ e. h (inr (inr e)))

  -- What stands at own link d of w has the links of the value (39).
  same_links_law : drop d W.chain ≡ U.chain
  same_links_law = sym (agreed T D X W eX eW) ∙ links

  same_boxes : d + boxes U ≡ boxes W
  same_boxes = ap (λ (k : List Link). d + leading_boxes k) (sym same_links_law) ∙ boxes_drop d W.chain dW

  same_after : drop (suc (boxes W)) W.chain ≡ drop (suc (boxes U)) U.chain
  same_after =
      let z : suc (boxes W) ≡ d + suc (boxes U) = omega (arith, same_boxes) in
      ap (λ (k : ℕ). drop k W.chain) z ∙ drop_add d (suc (boxes U)) W.chain ∙ ap (λ (k : List Link). drop (suc (boxes U)) k) same_links_law

  -- A beginning of the path leads where it led: it passes w not before its end, since ranks fall.
  Beginning : Name → ℕ → Type 0
  Beginning y s = (w' : Name) (d' g j : ℕ) → Reach Γ w' d' y g → s ≡ g + j → (Reach Γ' w' d' y g) × (ρ' w' d' ≡ ρ w' d')

  begins_here : (Q : Variable) → Γ w ≡ live Q → d ≤ boxes Q → Beginning w d
  unfolding Beginning
  begins_here Q e a w' d' g j E q =
      let z : Q ≡ W = cc in
      let i = inv_here W E eW (omega arith) in
      (rw (i.0, i.1) (here (fresh W.chain U.borrow W.level) Γ'w (omega arith) (omega arith)), rw (i.0, i.1) (ρ'w g (omega arith)))

  begins_hop : (n s : ℕ) (Q : Variable) (p : Place) → Γ (var n) ≡ live Q → borrowed Q.borrow ≡ some p → boxes Q < Q.moved_from → boxes Q < s
      → var n ≢ w
      → Beginning (var p.root) (p.follows + (s - suc (boxes Q))) → Beginning (var n) s
  unfolding Beginning
  begins_hop n s Q p e f a b nw I w' d' g j E q = go (dec_le g (boxes Q))
    where
      e' : Γ' (var n) ≡ live Q
      e' = Γ'z (var n) nw var≢flight ∙ e

      go : Dec (g ≤ boxes Q) → (Reach Γ' w' d' (var n) g) × (ρ' w' d' ≡ ρ w' d')
      go (yes u) =
          let i = inv_here Q E e u in
          (rw (i.0, i.1) (here Q e' u (omega arith)), rw (i.0, i.1) (ρ'z (var n) g nw var≢flight var≢drop))
      go (no u) =
          let R = I w' d' (p.follows + (g - suc (boxes Q))) j (inv_hop Q p E e f (omega arith)) (omega arith) in
          (hop {r = g} Q p e' f a (omega arith) R.0, R.1)

  begins : {y : Name} {s : ℕ} (E : Reach Γ w d y s) (n : ℕ) → y ≡ var n → Beginning y s
  begins (here Q e a b) n q = begins_here Q e a
  begins {y} {s} (hop Q p e f a b E) n q =
      let lo = ((T.at y Q e).refs a p f).lower in
      let nw : var n ≢ w = λ u. let z = ranked T E in let m : rank y ≡ rank w = ap rank (q ∙ u) in omega arith in
      rw q (begins_hop n s Q p (ap Γ (sym q) ∙ e) f a b nw (begins E p.root refl))

  ref_w : (p : Place) → borrowed U.borrow ≡ some p → Ref Γ' H' ρ' rank' w (fresh W.chain U.borrow W.level) p
  ref_w p q =
      let K = (T.at in_flight U e_u).refs wU p q in
      let f = borrowed_off p q in
      record {
        W = K.W;
        is = same (var p.root) f ∙ K.is;
        whole = K.whole;
        lower = rw (rank_off (var p.root) f, rank_on w (on_end D)) (omega (arith, K.lower));
        agree = same_after ∙ K.agree;
        long = K.long;
        around = lvl p K.W q K.is;
        unshared = K.unshared;
        l = K.l;
        shape = H'w (reference K.l) K.shape;
        row = λ w' d' E. let A = avoid_back Γ Γ' Touched same shut E f in K.row w' d' A.0 ∙ sym (ρ-off w' d' A.1);
      }

  at_w : At Γ' H' ρ' rank' w (fresh W.chain U.borrow W.level)
  at_w = record {
    fits = fits_up d W.chain U.borrow dW (rw same_links_law (T.at in_flight U e_u).fits);
    lost = λ h. absurd (omega arith);
    number = λ h q. let n = (T.at in_flight U e_u).number wU q in (n.0, H'w (num n.0) n.1);
    outdated = λ h q. let n = (T.at in_flight U e_u).outdated wU q in (n.0, H'w (reference n.0) n.1);
    refs = λ h p q. ref_w p q;
  }

  -- A whole variable stays, with its links and level.
  kept : (n : ℕ) (Y : Variable) → Γ (var n) ≡ live Y → boxes Y < Y.moved_from
      → (Z : Variable) × (Γ' (var n) ≡ live Z) × (Z.chain ≡ Y.chain) × (Z.level ≡ Y.level) × (boxes Z < Z.moved_from)
  kept n Y e h = go (name_dec (var n) w)
    where
      go : Dec (var n ≡ w) → (Z : Variable) × (Γ' (var n) ≡ live Z) × (Z.chain ≡ Y.chain) × (Z.level ≡ Y.level) × (boxes Z < Z.moved_from)
      go (yes q) =
          let e' : Γ w ≡ live Y = ap Γ (sym q) ∙ e in
          let z : W ≡ Y = cc in
          (fresh W.chain U.borrow W.level, ap Γ' q ∙ Γ'w, ap (λ (k : Variable). k.chain) z, ap (λ (k : Variable). k.level) z, omega arith)
      go (no q) = (Y, Γ'z (var n) q var≢flight ∙ e, refl, refl, h)

  -- A variable on the path before w keeps its reference: its place is a beginning of the rest of the path.
  ref_on : (n : ℕ) (Q : Variable) (p : Place) → On D (var n) → var n ≢ w → Γ (var n) ≡ live Q → boxes Q < Q.moved_from → borrowed Q.borrow ≡ some p
      → Ref Γ' H' ρ' rank' (var n) Q p
  unfolding Beginning
  ref_on n Q p o nw e a f =
      let N = next_on T D (var n) o nw in
      let z_q : N.0 ≡ Q = let h = N.3.is in cc in
      let zp : N.1 ≡ p = let h : some N.1 ≡ some p = sym N.3.at ∙ ap (λ (k : Variable). borrowed k.borrow) z_q ∙ f in cc in
      let K = (T.at (var n) Q e).refs a p f in
      let L = kept p.root K.W K.is K.whole in
      let E : Reach Γ w d (var p.root) (p.follows + N.2) = rw zp at N.4 in
      let o_n : On D (var p.root) = rw zp at N.5 in
      let P = prefix p.follows N.2 E refl in
      let A = pre_at p.root (p.follows + N.2) E P.0 P.1 p.follows N.2 P.2 refl in
      record {
        W = L.0;
        is = L.1;
        whole = L.4;
        lower = rw (rank_on (var p.root) o_n, rank_on (var n) o) (omega (arith, K.lower));
        agree = K.agree ∙ ap (λ (k : List Link). drop p.follows k) (sym L.2);
        long = rw L.2 K.long;
        around = rw L.3 K.around;
        unshared = λ h. rw L.2 (K.unshared h);
        l = K.l;
        shape = H'z (var n) nw var≢flight ∙ K.shape;
        row = λ w' d' F. let u = unique A.0 F in K.row P.0 P.1 P.2 ∙ sym A.1 ∙ ap₂ ρ' u.0 u.1;
      }
    where
      pre_at : (k s : ℕ) → Reach Γ w d (var k) s → (w' : Name) (d' g j : ℕ) → Reach Γ w' d' (var k) g → s ≡ g + j
          → (Reach Γ' w' d' (var k) g) × (ρ' w' d' ≡ ρ w' d')
      pre_at k s E = begins E k refl

  at_on : (n : ℕ) (Q : Variable) → On D (var n) → var n ≢ w → Γ (var n) ≡ live Q → At Γ' H' ρ' rank' (var n) Q
  at_on n Q o nw e =
      let A = T.at (var n) Q e in
      record {
        fits = A.fits;
        lost = λ g. H'z (var n) nw var≢flight ∙ A.lost g;
        number = λ g q. let k = A.number g q in (k.0, H'z (var n) nw var≢flight ∙ k.1);
        outdated = λ g q. let k = A.outdated g q in (k.0, H'z (var n) nw var≢flight ∙ k.1);
        refs = λ g p q. ref_on n Q p o nw e g q;
      }

  at' : (z : Name) (Q : Variable) → Γ' z ≡ live Q → At Γ' H' ρ' rank' z Q
  at' z Q e = go (name_dec z w) (name_dec z in_flight) (on_dec D z) (name_dec z in_drop)
    where
      go : Dec (z ≡ w) → Dec (z ≡ in_flight) → Dec (On D z) → Dec (z ≡ in_drop) → At Γ' H' ρ' rank' z Q
      go (yes q) k o l =
          let e' : Γ' w ≡ live Q = ap Γ' (sym q) ∙ e in
          let u : fresh W.chain U.borrow W.level ≡ Q = cc in
          rw (q, ← u) at_w
      go (no q) (yes k) o l = absurd (Γ't Q (ap Γ' (sym k) ∙ e))
      go (no q) (no k) (yes o) l =
          let v = on_var D x₀ refl z o in
          subst (λ (y : Name). At Γ' H' ρ' rank' y Q) (sym v.1)
          (at_on v.0 Q (subst (λ (y : Name). On D y) v.1 o) (λ u. q (v.1 ∙ u)) (ap Γ (sym v.1) ∙ sym (Γ'z z q k) ∙ e))
      go (no q) (no k) (no o) (yes l) = absurd (T.quiet Q (ap Γ (sym l) ∙ sym (Γ'z z q k) ∙ e))
      go (no q) (no k) (no o) (no l) =
          let e'' : Γ z ≡ live Q = sym (Γ'z z q k) ∙ e in
          at_off Γ Γ' Touched same shut H H' ρ ρ' rank rank' H-off ρ-off rank_off z Q e'' (λ u. elim u [ inl a ↦ o a | inr b ↦ elim b [ inl c ↦ k c | inr c ↦ l c ] ]) (T.at z Q e'')

  -- Who holds something afterwards held it before, w what was in flight.
  before : (z : Name) (Q : Variable) (p : Place) → Holds Γ' z Q p → (z ≢ w × Holds Γ z Q p) ⊎ (z ≡ w × Q.borrow ≡ U.borrow × Holds Γ in_flight U p)
  before z Q p K = go (name_dec z w) (name_dec z in_flight)
    where
      go : Dec (z ≡ w) → Dec (z ≡ in_flight) → (z ≢ w × Holds Γ z Q p) ⊎ (z ≡ w × Q.borrow ≡ U.borrow × Holds Γ in_flight U p)
      go (yes q) k =
          let e' : Γ' w ≡ live Q = ap Γ' (sym q) ∙ K.is in
          let u : Q ≡ fresh W.chain U.borrow W.level = cc in
          inr (q, ap (λ (v : Variable). v.borrow) u, record { is = e_u; whole = wU; at = ap (λ (v : Variable). borrowed v.borrow) (sym u) ∙ K.at })
      go (no q) (yes k) = absurd (Γ't Q (ap Γ' (sym k) ∙ K.is))
      go (no q) (no k) = inl (q, record { is = sym (Γ'z z q k) ∙ K.is; whole = K.whole; at = K.at })

  not_flight : (z : Name) (Q : Variable) (p : Place) → Holds Γ' z Q p → z ≢ in_flight
  not_flight z Q p K k = Γ't Q (ap Γ' (sym k) ∙ K.is)

  exclusive' : (x y : Name) (A B : Variable) (p q : Place) → Holds Γ' x A p → Holds Γ' y B q → p.root ≡ q.root → is_exclusive A.borrow ≡ true
      → x ≡ y
  exclusive' x y A B p q K L e h = go (before x A p K) (before y B q L)
    where
      go : (x ≢ w × Holds Γ x A p) ⊎ (x ≡ w × A.borrow ≡ U.borrow × Holds Γ in_flight U p)
          → (y ≢ w × Holds Γ y B q) ⊎ (y ≡ w × B.borrow ≡ U.borrow × Holds Γ in_flight U q) → x ≡ y
      go (inl a) (inl b) = T.exclusive x y A B p q a.1 b.1 e h
      go (inl a) (inr b) = absurd (not_flight x A p K (T.exclusive x in_flight A U p q a.1 b.2 e h))
      go (inr a) (inl b) = absurd (not_flight y B q L (sym (T.exclusive in_flight y U B p q a.2 b.1 e (ap is_exclusive (sym a.1) ∙ h))))
      go (inr a) (inr b) = a.0 ∙ sym b.0

  bound' : (x : ℕ) (Q : Variable) → Γ' (var x) ≡ live Q → x < nv
  bound' x Q e = go (name_dec (var x) w)
    where
      go : Dec (var x ≡ w) → x < nv
      go (yes q) = T.bound x W (ap Γ q ∙ eW)
      go (no q) = T.bound x Q (sym (Γ'z (var x) q var≢flight) ∙ e)

  absent' : (x : Name) → (G x → ⊥) → ((Q : Variable) → Γ' x ≢ live Q) → H' x ≡ no_row
  absent' x g h = go (name_dec x w) (name_dec x in_flight)
    where
      go : Dec (x ≡ w) → Dec (x ≡ in_flight) → H' x ≡ no_row
      go (yes q) k = absurd (h _ (ap Γ' q ∙ Γ'w))
      go (no q) (yes k) = rw k H't
      go (no q) (no k) = H'z x q k ∙ T.absent x g (λ Q e. h Q (Γ'z x q k ∙ e))

  pub written : (rank'' : Name → ℕ) × Typed nv G Γ' H' ρ' rank''
  written = (
    rank',
    record {
      at = at';
      bound = bound';
      quiet = λ Q e. T.quiet Q (sym (Γ'z in_drop (λ q. w_drop (sym q)) (λ q. let z : ◌≡◌ {A = ℕ} 0 1 = cc in omega arith)) ∙ e);
      exclusive = exclusive';
      absent = absent';
    },
  )
