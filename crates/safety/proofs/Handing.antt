-- A step of the typing layer: the own part of a from link d on goes to b, a name not in use. A move and a let are such steps.
use Prim.Native.Nat.{ℕ, suc, ◌+◌, ◌-◌, ◌≤◌, ◌<◌}
use native.Mathlib.Omega.{arith}
use mathlib.Core.Path.{◌≡◌, sym, ap, ◌∙◌}
use mathlib.Core.Logic.{◌≢◌, ◌⊎◌, inl, inr}
use mathlib.Core.Bool.{true}
use mathlib.Core.Option.{some}
use lib.ListN.{drop}
use Rattle.syntax.specs.Script.{Place}
use Rattle.statics.specs.Links.{leading_boxes}
use Rattle.statics.proofs.LinkChains.{drop_add, boxes_drop}
use Rattle.dynamics.specs.Values.{Value, empty, num, reference}
use Rattle.safety.proofs.Memory.{Name, in_drop, var, Spot, Content, no_row, has, name_dec, either_dec}
use Rattle.safety.proofs.NameMaps.{upd, upd_same, upd_other}
use Rattle.safety.proofs.Ghost.{Variable, Slot, live, fresh, moved_away}
use Rattle.safety.proofs.Typing.{borrowed, is_exclusive, boxes, Ref, At, Holds, Typed, avoid_back}
use Rattle.safety.proofs.Chains.{fits_down}
use Rattle.safety.proofs.Frames.{frame}

module _ {nv : ℕ} {G : Name → Type 0} {Γ : Name → Slot} {H : Name → Content} {ρ : Name → ℕ → Spot} {rank : Name → ℕ} (T : Typed nv G Γ H ρ rank)
    -- a is whole, nobody holds it, and what it borrows lives far enough out.
    (a b : Name) (d : ℕ) (A : Variable) (lv : ℕ) (ab : a ≢ b) (eA : Γ a ≡ live A) (wA : boxes A < A.moved_from) (dA : d ≤ boxes A)
    (dead : (Q : Variable) → Γ b ≢ live Q) (lvA : (p : Place) (R : Variable) → borrowed A.borrow ≡ some p → Γ (var p.root) ≡ live R → R.level ≤ lv)
    (unheld : (h : Name) (Q : Variable) (p : Place) → Holds Γ h Q p → var p.root ≢ a)
    -- Afterwards a is moved away from d on or not in scope, and b has the rest.
    (Γ' : Name → Slot) (Γ'a : ((Q : Variable) → Γ' a ≢ live Q) ⊎ (Γ' a ≡ live (moved_away A d))) (Γ'b : Γ' b ≡ live (fresh (drop d A.chain) A.borrow lv)) (Γ'z : (z : Name) → z ≢ a → z ≢ b → Γ' z ≡ Γ z)
    (H' : Name → Content) (H'a : ((Q : Variable) → Γ' a ≢ live Q) → H' a ≡ no_row) (H'l : Γ' a ≡ live (moved_away A d) → H' a ≡ has d empty)
    (H'b : (v : Value) → H a ≡ has (boxes A) v → H' b ≡ has (boxes A - d) v) (H'z : (z : Name) → z ≢ a → z ≢ b → H' z ≡ H z)
    (ρ' : Name → ℕ → Spot) (ρ'z : (z : Name) (i : ℕ) → z ≢ a → z ≢ b → ρ' z i ≡ ρ z i)
    (bn : (x : ℕ) → b ≡ var x → x < nv) (bo : b ≢ in_drop) where
  -- The two names that change.
  abbrev Two : Name → Type 0
  Two z = (z ≡ a) ⊎ (z ≡ b)

  same : (z : Name) → (Two z → ⊥) → Γ' z ≡ Γ z
  same z h = Γ'z z (λ e. h (inl e)) (λ e. h (inr e))

  shut : (x : Name) (Q : Variable) (p : Place) → Holds Γ x Q p → (Two x → ⊥) → Two (var p.root) → ⊥
  shut x Q p K h (inl e) = unheld x Q p K e
  shut x Q p K h (inr e) = let R = (T.at x Q K.is).refs K.whole p K.at in dead R.W (ap Γ (sym e) ∙ R.is)

  -- What a held is neither a nor b.
  root_off : (p : Place) → borrowed A.borrow ≡ some p → Two (var p.root) → ⊥
  root_off p q (inl e) = unheld a A p (record { is = eA; whole = wA; at = q }) e
  root_off p q (inr e) = let R = (T.at a A eA).refs wA p q in dead R.W (ap Γ (sym e) ∙ R.is)

  boxes_b : boxes (fresh (drop d A.chain) A.borrow lv) ≡ boxes A - d
  boxes_b = let z = boxes_drop d A.chain dA in omega arith

  ref_b : (p : Place) → borrowed A.borrow ≡ some p → Ref Γ' H' ρ' (upd rank b (rank a)) b (fresh (drop d A.chain) A.borrow lv) p
  ref_b p q =
      let K = (T.at a A eA).refs wA p q in
      let f = root_off p q in
      let z = boxes_drop d A.chain dA in
      let y : suc (boxes A) ≡ d + suc (leading_boxes (drop d A.chain)) = omega arith in
      record {
        W = K.W;
        is = same (var p.root) f ∙ K.is;
        whole = K.whole;
        lower = rw (upd_same rank b (rank a), upd_other rank b (rank a) (var p.root) (λ e. f (inr e))) K.lower;
        agree = sym (drop_add d (suc (leading_boxes (drop d A.chain))) A.chain) ∙ ap (λ (k : ℕ). drop k A.chain) (sym y) ∙ K.agree;
        long = K.long;
        around = lvA p K.W q K.is;
        unshared = K.unshared;
        l = K.l;
        shape = H'b (reference K.l) K.shape ∙ ap (λ (k : ℕ). has k (reference K.l)) (sym boxes_b);
        row = λ w' d' E. let C = avoid_back Γ Γ' Two same shut E f in K.row w' d' C.0 ∙ sym (ρ'z w' d' (λ e. C.1 (inl e)) (λ e. C.1 (inr e)));
      }

  at_b : At Γ' H' ρ' (upd rank b (rank a)) b (fresh (drop d A.chain) A.borrow lv)
  at_b = record {
    fits = fits_down d A.chain A.borrow dA (T.at a A eA).fits;
    lost = λ h. absurd (omega arith);
    number = λ h q. let n = (T.at a A eA).number wA q in (n.0, H'b (num n.0) n.1 ∙ ap (λ (k : ℕ). has k (num n.0)) (sym boxes_b));
    outdated = λ h q. let n = (T.at a A eA).outdated wA q in (n.0, H'b (reference n.0) n.1 ∙ ap (λ (k : ℕ). has k (reference n.0)) (sym boxes_b));
    refs = λ h p q. ref_b p q;
  }

  at_a : (Γ' a ≡ live (moved_away A d)) → At Γ' H' ρ' (upd rank b (rank a)) a (moved_away A d)
  at_a e = record {
    fits = (T.at a A eA).fits;
    lost = λ h. H'l e;
    number = λ h q. absurd (omega arith);
    outdated = λ h q. absurd (omega arith);
    refs = λ h p q. absurd (omega arith);
  }

  is_a : (Q : Variable) → Γ' a ≡ live Q → Q ≡ moved_away A d
  is_a Q e = go Γ'a
    where
      go : ((Q : Variable) → Γ' a ≢ live Q) ⊎ (Γ' a ≡ live (moved_away A d)) → Q ≡ moved_away A d
      go (inl h) = absurd (h Q e)
      go (inr h) = cc

  at_two : (z : Name) (Q : Variable) → Two z → Γ' z ≡ live Q → At Γ' H' ρ' (upd rank b (rank a)) z Q
  at_two z Q (inl e) h =
      let f : Γ' a ≡ live Q = ap Γ' (sym e) ∙ h in
      let u = is_a Q f in
      rw (e, u) (at_a (f ∙ ap live u))
  at_two z Q (inr e) h =
      let f : Γ' b ≡ live Q = ap Γ' (sym e) ∙ h in
      let u : fresh (drop d A.chain) A.borrow lv ≡ Q = cc in
      rw (e, ← u) at_b

  -- Who holds something afterwards held it before, b what a held.
  before : (z : Name) (Q : Variable) (p : Place) → Holds Γ' z Q p → (z ≢ a × z ≢ b × Holds Γ z Q p) ⊎ (z ≡ b × Q.borrow ≡ A.borrow × Holds Γ a A p)
  before z Q p K = go (name_dec z a) (name_dec z b)
    where
      Goal : Type 0
      Goal = (z ≢ a × z ≢ b × Holds Γ z Q p) ⊎ (z ≡ b × Q.borrow ≡ A.borrow × Holds Γ a A p)

      go : Dec (z ≡ a) → Dec (z ≡ b) → Goal
      go (yes e) k =
          let u = is_a Q (ap Γ' (sym e) ∙ K.is) in
          let x1 : Q.moved_from ≡ d = ap (λ (v : Variable). v.moved_from) u in
          let x2 : boxes Q ≡ boxes A = ap (λ (v : Variable). boxes v) u in
          absurd (omega (arith, K.whole))
      go (no e) (yes k) =
          let f : Γ' b ≡ live Q = ap Γ' (sym k) ∙ K.is in
          let u : Q ≡ fresh (drop d A.chain) A.borrow lv = cc in
          inr (k, ap (λ (v : Variable). v.borrow) u, record { is = eA; whole = wA; at = ap (λ (v : Variable). borrowed v.borrow) (sym u) ∙ K.at })
      go (no e) (no k) = inl (e, k, record { is = sym (Γ'z z e k) ∙ K.is; whole = K.whole; at = K.at })

  exclusive_two : (x y : Name) (P Q : Variable) (p q : Place) → Two x ⊎ Two y → Holds Γ' x P p → Holds Γ' y Q q → p.root ≡ q.root
      → is_exclusive P.borrow ≡ true → x ≡ y
  exclusive_two x y P Q p q u K L e h = go (before x P p K) (before y Q q L)
    where
      go : (x ≢ a × x ≢ b × Holds Γ x P p) ⊎ (x ≡ b × P.borrow ≡ A.borrow × Holds Γ a A p)
          → (y ≢ a × y ≢ b × Holds Γ y Q q) ⊎ (y ≡ b × Q.borrow ≡ A.borrow × Holds Γ a A q) → x ≡ y
      go (inl f) (inl g) = T.exclusive x y P Q p q f.2 g.2 e h
      go (inl f) (inr g) = absurd (f.0 (T.exclusive x a P A p q f.2 g.2 e h))
      go (inr f) (inl g) = absurd (g.0 (sym (T.exclusive a y A Q p q f.2 g.2 e (ap is_exclusive (sym f.1) ∙ h))))
      go (inr f) (inr g) = f.0 ∙ sym g.0

  bound_two : (x : ℕ) (Q : Variable) → Two (var x) → Γ' (var x) ≡ live Q → x < nv
  bound_two x Q (inl e) h = T.bound x A (ap Γ e ∙ eA)
  bound_two x Q (inr e) h = bn x (sym e)

  quiet_two : Two in_drop → (Q : Variable) → Γ' in_drop ≢ live Q
  quiet_two (inl e) Q h = T.quiet A (ap Γ e ∙ eA)
  quiet_two (inr e) Q h = bo (sym e)

  absent_two : (x : Name) → Two x → (G x → ⊥) → ((Q : Variable) → Γ' x ≢ live Q) → H' x ≡ no_row
  absent_two x (inl e) g h = ap H' e ∙ H'a (λ Q f. h Q (ap Γ' e ∙ f))
  absent_two x (inr e) g h = absurd (h _ (ap Γ' e ∙ Γ'b))

  pub handed : (rank'' : Name → ℕ) × Typed nv G Γ' H' ρ' rank''
  handed = (
    upd rank b (rank a),
    frame T Two (either_dec a b) G Γ' H' ρ' (upd rank b (rank a)) same shut
        (λ z h. H'z z (λ e. h (inl e)) (λ e. h (inr e)))
        (λ z i h. ρ'z z i (λ e. h (inl e)) (λ e. h (inr e)))
        (λ z h. upd_other rank b (rank a) z (λ e. h (inr e))) (λ z h g. g)
        at_two bound_two quiet_two exclusive_two absent_two,
  )
