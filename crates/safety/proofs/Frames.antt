-- Steps of the typing layer that change only a set X of names, into which nobody outside X holds anything.
use Prim.Native.Nat.{ℕ, suc, ◌≤◌, ◌<◌}
use native.Mathlib.Omega.{arith}
use mathlib.Core.Path.{◌≡◌, refl, sym, ap, ◌∙◌}
use mathlib.Core.Logic.{◌≢◌, ◌⊎◌, inl, inr}
use mathlib.Core.Bool.{true}
use mathlib.Core.Option.{some}
use lib.ListN.{drop}
use Rattle.syntax.specs.Script.{Place}
use Rattle.dynamics.specs.Values.{Value, num, reference}
use Rattle.safety.proofs.Memory.{Name, in_flight, in_drop, var, Spot, Content, no_row, has, name_dec, var≢flight, drop≢flight}
use Rattle.safety.proofs.Ghost.{Variable, Slot, live}
use Rattle.safety.proofs.Typing.{borrowed, is_exclusive, Fits, boxes, Ref, At, Holds, Typed, avoid_back, at_off}

module _ {nv : ℕ} {G : Name → Type 0} {Γ : Name → Slot} {H : Name → Content} {ρ : Name → ℕ → Spot} {rank : Name → ℕ} (T : Typed nv G Γ H ρ rank)
    (X : Name → Type 0) (xDec : (z : Name) → Dec (X z)) (G' : Name → Type 0) (Γ' : Name → Slot) (H' : Name → Content) (ρ' : Name → ℕ → Spot) (rank' : Name → ℕ)
    (same : (z : Name) → (X z → ⊥) → Γ' z ≡ Γ z)
    (shut : (x : Name) (Q : Variable) (p : Place) → Holds Γ x Q p → (X x → ⊥) → X (var p.root) → ⊥)
    (same_h : (z : Name) → (X z → ⊥) → H' z ≡ H z)
    (sameρ : (z : Name) (i : ℕ) → (X z → ⊥) → ρ' z i ≡ ρ z i)
    (sameR : (z : Name) → (X z → ⊥) → rank' z ≡ rank z)
    (more : (z : Name) → (X z → ⊥) → (G' z → ⊥) → G z → ⊥)
    (at_in : (z : Name) (Q : Variable) → X z → Γ' z ≡ live Q → At Γ' H' ρ' rank' z Q)
    (bound-in : (x : ℕ) (Q : Variable) → X (var x) → Γ' (var x) ≡ live Q → x < nv)
    (quiet-in : X in_drop → (Q : Variable) → Γ' in_drop ≢ live Q)
    (exclusive_in_law : (x y : Name) (A B : Variable) (p q : Place) → X x ⊎ X y → Holds Γ' x A p → Holds Γ' y B q → p.root ≡ q.root → is_exclusive A.borrow ≡ true → x ≡ y)
    (absent-in : (x : Name) → X x → (G' x → ⊥) → ((Q : Variable) → Γ' x ≢ live Q) → H' x ≡ no_row) where
  pub frame : Typed nv G' Γ' H' ρ' rank'
  frame = record { at = at'; bound = bound'; quiet = quiet'; exclusive = exclusive'; absent = absent' }
    where
      at' : (z : Name) (Q : Variable) → Γ' z ≡ live Q → At Γ' H' ρ' rank' z Q
      at' z Q e = elim (xDec z) [
        | yes h ↦ at_in z Q h e
        | no h ↦ let e' : Γ z ≡ live Q = sym (same z h) ∙ e in at_off Γ Γ' X same shut H H' ρ ρ' rank rank' same_h sameρ sameR z Q e' h (T.at z Q e')
      ]

      bound' : (x : ℕ) (Q : Variable) → Γ' (var x) ≡ live Q → x < nv
      bound' x Q e = elim (xDec (var x)) [ yes h ↦ bound-in x Q h e | no h ↦ T.bound x Q (sym (same (var x) h) ∙ e) ]

      quiet' : (Q : Variable) → Γ' in_drop ≢ live Q
      quiet' Q e = elim (xDec in_drop) [ yes h ↦ quiet-in h Q e | no h ↦ T.quiet Q (sym (same in_drop h) ∙ e) ]

      held : (x : Name) (A : Variable) (p : Place) → (X x → ⊥) → Holds Γ' x A p → Holds Γ x A p
      held x A p h K = record { is = sym (same x h) ∙ K.is; whole = K.whole; at = K.at }

      exclusive' : (x y : Name) (A B : Variable) (p q : Place) → Holds Γ' x A p → Holds Γ' y B q → p.root ≡ q.root → is_exclusive A.borrow ≡ true
          → x ≡ y
      exclusive' x y A B p q K L e h = go (xDec x) (xDec y)
        where
          go : Dec (X x) → Dec (X y) → x ≡ y
          go (yes a) b = exclusive_in_law x y A B p q (inl a) K L e h
          go (no a) (yes b) = exclusive_in_law x y A B p q (inr b) K L e h
          go (no a) (no b) = T.exclusive x y A B p q (held x A p a K) (held y B q b L) e h

      absent' : (x : Name) → (G' x → ⊥) → ((Q : Variable) → Γ' x ≢ live Q) → H' x ≡ no_row
      absent' x g h = elim (xDec x) [ yes a ↦ absent-in x a g h | no a ↦ same_h x a ∙ T.absent x (more x a g) (λ Q e. h Q (same x a ∙ e)) ]

-- ---- names that are not in scope: what they have does not matter

module _ {nv : ℕ} {G : Name → Type 0} {Γ : Name → Slot} {H : Name → Content} {ρ : Name → ℕ → Spot} {rank : Name → ℕ} (T : Typed nv G Γ H ρ rank)
    (X : Name → Type 0) (xDec : (z : Name) → Dec (X z)) (Γ' : Name → Slot) (same : (z : Name) → (X z → ⊥) → Γ' z ≡ Γ z)
    (dead : (z : Name) → X z → (Q : Variable) → Γ z ≢ live Q) (dead' : (z : Name) → X z → (Q : Variable) → Γ' z ≢ live Q) (G' : Name → Type 0) (H' : Name → Content) (ρ' : Name → ℕ → Spot)
    (same_h : (z : Name) → (X z → ⊥) → H' z ≡ H z)
    (sameρ : (z : Name) (i : ℕ) → (X z → ⊥) → ρ' z i ≡ ρ z i)
    (more : (z : Name) → (X z → ⊥) → (G' z → ⊥) → G z → ⊥)
    (out : (z : Name) → X z → (G' z → ⊥) → H' z ≡ no_row) where
  pub sweep : Typed nv G' Γ' H' ρ' rank
  sweep = frame T X xDec G' Γ' H' ρ' rank same
      (λ x Q p K h e. dead (var p.root) e ((T.at x Q K.is).refs K.whole p K.at).W ((T.at x Q K.is).refs K.whole p K.at).is)
      same_h sameρ (λ z h. refl) more
      (λ z Q e h. absurd (dead' z e Q h))
      (λ x Q e h. absurd (dead' (var x) e Q h))
      (λ e Q h. dead' in_drop e Q h)
      (λ x y A B p q u K L e h. absurd (none_in x y A B p q u K L))
      (λ x e a h. out x e a)
    where
      none_in : (x y : Name) (A B : Variable) (p q : Place) → X x ⊎ X y → Holds Γ' x A p → Holds Γ' y B q → ⊥
      none_in x y A B p q (inl h) K L = dead' x h A K.is
      none_in x y A B p q (inr h) K L = dead' y h B L.is

-- ---- a value in flight

module _ {nv : ℕ} {G : Name → Type 0} {Γ : Name → Slot} {H : Name → Content} {ρ : Name → ℕ → Spot} {rank : Name → ℕ} (T : Typed nv G Γ H ρ rank)
    (U : Variable) (Γ' : Name → Slot) (Γ't : Γ' in_flight ≡ live U) (Γ'z : (z : Name) → z ≢ in_flight → Γ' z ≡ Γ z)
    (H' : Name → Content) (H'z : (z : Name) → z ≢ in_flight → H' z ≡ H z)
    (ρ' : Name → ℕ → Spot) (ρ'z : (z : Name) (i : ℕ) → z ≢ in_flight → ρ' z i ≡ ρ z i)
    (rank' : Name → ℕ) (rk'z : (z : Name) → z ≢ in_flight → rank' z ≡ rank z) where
  -- Asked of the new value: its typing, and that what it borrows nobody holds exclusively, and if it borrows exclusively nobody holds.
  pub in_flight_law : At Γ' H' ρ' rank' in_flight U
      → ((y : Name) (B : Variable) (p q : Place) → borrowed U.borrow ≡ some p → Holds Γ y B q → y ≢ in_flight → p.root ≡ q.root → (is_exclusive U.borrow ≡ true → ⊥) × (is_exclusive B.borrow ≡ true → ⊥))
      → Typed nv G Γ' H' ρ' rank'
  in_flight_law A ne = frame T (λ z. z ≡ in_flight) (λ z. name_dec z in_flight) G Γ' H' ρ' rank' Γ'z
      (λ x Q p K h e. var≢flight e) H'z ρ'z rk'z (λ z h a. a)
      (λ z Q e h. let u : U ≡ Q = let f : Γ' in_flight ≡ live Q = ap Γ' (sym e) ∙ h in cc in rw (e, ← u) A)
      (λ x Q e h. absurd (var≢flight e))
      (λ e Q h. drop≢flight e)
      exclusive_in_law
      (λ x e a h. absurd (h U (ap Γ' e ∙ Γ't)))
    where
      off : (x : Name) (B : Variable) (p : Place) → x ≢ in_flight → Holds Γ' x B p → Holds Γ x B p
      off x B p h K = record { is = sym (Γ'z x h) ∙ K.is; whole = K.whole; at = K.at }

      mine : (x : Name) (B : Variable) (p : Place) → x ≡ in_flight → Holds Γ' x B p → (B.borrow ≡ U.borrow) × (borrowed U.borrow ≡ some p)
      mine x B p e K =
          let f : Γ' in_flight ≡ live B = ap Γ' (sym e) ∙ K.is in
          let u : U ≡ B = cc in
          (ap (λ (v : Variable). v.borrow) (sym u), ap (λ (v : Variable). borrowed v.borrow) u ∙ K.at)

      exclusive_in_law : (x y : Name) (A B : Variable) (p q : Place) → (x ≡ in_flight) ⊎ (y ≡ in_flight) → Holds Γ' x A p → Holds Γ' y B q
          → p.root ≡ q.root → is_exclusive A.borrow ≡ true → x ≡ y
      exclusive_in_law x y A B p q u K L e h = go (name_dec x in_flight) (name_dec y in_flight) u
        where
          go : Dec (x ≡ in_flight) → Dec (y ≡ in_flight) → (x ≡ in_flight) ⊎ (y ≡ in_flight) → x ≡ y
          go (yes a) (yes b) u = a ∙ sym b
          go (yes a) (no b) u = let M = mine x A p a K in absurd ((ne y B p q M.1 (off y B q b L) b e).0 (ap is_exclusive (sym M.0) ∙ h))
          go (no a) (yes b) u = let M = mine y B q b L in absurd ((ne x A q p M.1 (off x A p a K) a (sym e)).1 h)
          go (no a) (no b) (inl c) = absurd (a c)
          go (no a) (no b) (inr c) = absurd (b c)

-- ---- the value in flight with another link or level around it

module _ {nv : ℕ} {G : Name → Type 0} {Γ : Name → Slot} {H : Name → Content} {ρ : Name → ℕ → Spot} {rank : Name → ℕ} (T : Typed nv G Γ H ρ rank)
    (U N : Variable) (e_u : Γ in_flight ≡ live U) (wU : boxes U < U.moved_from) (wN : boxes N < N.moved_from) (bN : N.borrow ≡ U.borrow) (fN : Fits N.chain N.borrow)
    (aN : drop (suc (boxes N)) N.chain ≡ drop (suc (boxes U)) U.chain)
    (lN : (p : Place) (R : Variable) → borrowed U.borrow ≡ some p → Γ (var p.root) ≡ live R → R.level ≤ N.level)
    (Γ' : Name → Slot) (Γ't : Γ' in_flight ≡ live N) (Γ'z : (z : Name) → z ≢ in_flight → Γ' z ≡ Γ z)
    (H' : Name → Content) (H't : (v : Value) → H in_flight ≡ has (boxes U) v → H' in_flight ≡ has (boxes N) v) (H'z : (z : Name) → z ≢ in_flight → H' z ≡ H z)
    (ρ' : Name → ℕ → Spot) (ρ'z : (z : Name) (i : ℕ) → z ≢ in_flight → ρ' z i ≡ ρ z i) where
  ref_again : (p : Place) → borrowed N.borrow ≡ some p → Ref Γ' H' ρ' rank in_flight N p
  ref_again p q =
      let q' : borrowed U.borrow ≡ some p = ap borrowed (sym bN) ∙ q in
      let K = (T.at in_flight U e_u).refs wU p q' in
      record {
        W = K.W;
        is = Γ'z (var p.root) var≢flight ∙ K.is;
        whole = K.whole;
        lower = K.lower;
        agree = aN ∙ K.agree;
        long = K.long;
        around = lN p K.W q' K.is;
        unshared = λ h. K.unshared (ap is_exclusive (sym bN) ∙ h);
        l = K.l;
        shape = H't (reference K.l) K.shape;
        row = λ w' d' E. let C = avoid_back Γ Γ' (λ z. z ≡ in_flight) Γ'z (λ x Q p K h e. var≢flight e) E var≢flight in K.row w' d' C.0 ∙ sym (ρ'z w' d' C.1);
      }

  pub reworked : Typed nv G Γ' H' ρ' rank
  reworked = in_flight_law T N Γ' Γ't Γ'z H' H'z ρ' ρ'z rank (λ z h. refl)
      (record {
        fits = fN;
        lost = λ h. absurd (omega arith);
        number = λ h q. let n = (T.at in_flight U e_u).number wU (sym bN ∙ q) in (n.0, H't (num n.0) n.1);
        outdated = λ h q. let n = (T.at in_flight U e_u).outdated wU (sym bN ∙ q) in (n.0, H't (reference n.0) n.1);
        refs = λ h p q. ref_again p q;
      })
      (λ y B p q f K ne e. let M : Holds Γ in_flight U p = record { is = e_u; whole = wU; at = ap borrowed (sym bN) ∙ f } in
      (λ h. ne (sym (T.exclusive in_flight y U B p q M K e (ap is_exclusive (sym bN) ∙ h))), λ h. ne (T.exclusive y in_flight B U q p K M (sym e) h)))

-- ---- names leave scope

module _ {nv : ℕ} {G : Name → Type 0} {Γ : Name → Slot} {H : Name → Content} {ρ : Name → ℕ → Spot} {rank : Name → ℕ} (T : Typed nv G Γ H ρ rank)
    (X : Name → Type 0) (xDec : (z : Name) → Dec (X z))
    (Γ' : Name → Slot) (same : (z : Name) → (X z → ⊥) → Γ' z ≡ Γ z) (dead : (z : Name) → X z → (Q : Variable) → Γ' z ≢ live Q)
    (shut : (x : Name) (Q : Variable) (p : Place) → Holds Γ x Q p → (X x → ⊥) → X (var p.root) → ⊥) where
  pub left : Typed nv (λ z. G z ⊎ X z) Γ' H ρ rank
  left = frame T X xDec (λ z. G z ⊎ X z) Γ' H ρ rank same shut (λ z h. refl) (λ z i h. refl) (λ z h. refl)
      (λ z h g k. g (inl k))
      (λ z Q h e. absurd (dead z h Q e))
      (λ x Q h e. absurd (dead (var x) h Q e))
      (λ h Q e. dead in_drop h Q e)
      (λ x y P Q p q u K L e h. absurd (gone_in x y P Q p q u K L))
      (λ x h g n. absurd (g (inr h)))
    where
      gone_in : (x y : Name) (P Q : Variable) (p q : Place) → X x ⊎ X y → Holds Γ' x P p → Holds Γ' y Q q → ⊥
      gone_in x y P Q p q (inl h) K L = dead x h P K.is
      gone_in x y P Q p q (inr h) K L = dead y h Q L.is
