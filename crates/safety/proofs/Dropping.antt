-- Dropping, on the memory layer: the chain of cells of the value being dropped is given back.
use Prim.Native.Nat.{ℕ, zero, suc, ◌≤◌}
use native.Mathlib.Omega.{arith}
use mathlib.Core.Path.{◌≡◌, refl, sym, ap, ◌∙◌, subst}
use mathlib.Core.Logic.{◌≢◌}
use Rattle.syntax.specs.Result.{ok}
use Rattle.dynamics.specs.Values.{Location, cell, Value, owner, Row, closed, given_back, open_with}
use Rattle.dynamics.specs.Store.{Store, put, State, with_store}
use Rattle.dynamics.specs.Drop.{InOrder, drop_value}
use Rattle.dynamics.proofs.StoreLaws.{put_same, put_other}
use Rattle.dynamics.proofs.DropLaws.{without_in_order, drop_owner, drop_empty, drop_num, drop_reference}
use Rattle.safety.proofs.Memory.{Name, in_drop, Spot, in_cell, Content, no_row, has, spot_dec, Plain, p_empty, p_num, p_ref, Memory, row_open}
use Rattle.safety.proofs.NameMaps.{upd, upd_same, upd_other}
use Rattle.safety.proofs.Lifted.{spot_of, lift, spot_inj, lift_other, lift_drop}
use Rattle.safety.proofs.Naming.{close_name}
use Rattle.safety.proofs.Pop.{popped, popped_other, popped_at, pop}

-- A is the store that the run has, S the one that the invariant speaks of: they differ only in rows X, which the value being dropped
-- does not own.
pub record Gone (H : Name → Content) (t : Row) (ρ : Name → ℕ → Spot) (X : Location → Type 0) (A S : Store) (i : ℕ) (s : State) (u : Value) : Type 1 where
  pub A' : Store
  pub S' : Store
  pub H' : Name → Content
  pub ρ' : Name → ℕ → Spot
  pub mem : Memory H' (lift S' t closed) s.taken ρ'
  pub ran : drop_value i (with_store s A) u ≡ ok (with_store s A')
  pub out : H' in_drop ≡ no_row
  pub same_h : (z : Name) → z ≢ in_drop → H' z ≡ H z
  pub sameρ : (z : Name) (j : ℕ) → z ≢ in_drop → ρ' z j ≡ ρ z j
  pub agree : (l : Location) → (X l → ⊥) → A' l ≡ S' l
  pub kept_a : (l : Location) → X l → A' l ≡ A l
  pub kept_s : (l : Location) → X l → S' l ≡ S l

drop_plain : (i : ℕ) (s : State) (u : Value) → Plain u → drop_value i s u ≡ ok s
drop_plain i s u p_empty = drop_empty i s
drop_plain i s u (p_num n) = drop_num i s n
drop_plain i s u (p_ref l) = drop_reference i s l

module _ (t : Row) (X : Location → Type 0) (i : ℕ) (s : State) where
  -- The value being dropped owns n cells.
  Dropped : ℕ → Type 1
  Dropped n = (H : Name → Content) (ρ : Name → ℕ → Spot) (A S : Store) (u v : Value) → Memory H (lift S t (open_with u)) s.taken ρ → H in_drop ≡ has n v → InOrder (with_store s A)
      → ((l : Location) → (X l → ⊥) → A l ≡ S l) → ((c j : ℕ) → X (cell c) → j ≤ n → ρ in_drop j ≢ in_cell c) → Gone H t ρ X A S i s u

  gone_last : Dropped 0
  unfolding Dropped
  gone_last H ρ A S u v m h io ag no_x =
      let e : open_with u ≡ open_with v = ap (λ (q : Spot). lift S t (open_with u) q) (sym (m.base in_drop)) ∙ m.leaf in_drop 0 v h in
      let z : u ≡ v = cc in
      record {
        A' = A;
        S' = S;
        H' = upd H in_drop no_row;
        ρ' = ρ;
        mem = close_name m in_drop v h (upd H in_drop no_row) (upd_same H in_drop no_row) (λ y q. upd_other H in_drop no_row y q) (lift S t closed) refl (λ q p. lift_drop S t closed (open_with u) q p);
        ran = drop_plain i (with_store s A) u (rw z (m.plain in_drop 0 v h));
        out = upd_same H in_drop no_row;
        same_h = λ y q. upd_other H in_drop no_row y q;
        sameρ = λ y j q. refl;
        agree = ag;
        kept_a = λ l x. refl;
        kept_s = λ l x. refl;
      }

  gone_step : (n : ℕ) → Dropped n → (H : Name → Content) (ρ : Name → ℕ → Spot) (A S : Store) (v : Value) (c : ℕ) (w : Value)
      → Memory H (lift S t (open_with (owner c))) s.taken ρ → H in_drop ≡ has (suc n) v
      → InOrder (with_store s A) → ρ in_drop 1 ≡ in_cell c → S (cell c) ≡ open_with w
      → ((l : Location) → (X l → ⊥) → A l ≡ S l) → ((d j : ℕ) → X (cell d) → j ≤ suc n → ρ in_drop j ≢ in_cell d) → Gone H t ρ X A S i s (owner c)
  unfolding Dropped
  gone_step n rest H ρ A S v c w m h io first Sc ag no_x =
      let R = rest H₁ (popped ρ in_drop) (put A (cell c) given_back) (put S (cell c) given_back) w v m' (upd_same H in_drop (has n v)) (without_in_order (with_store s A) io c w Ac) ag' no_x' in
      record {
        A' = R.A';
        S' = R.S';
        H' = R.H';
        ρ' = R.ρ';
        mem = R.mem;
        ran = drop_owner (with_store s A) io i c w Ac ∙ R.ran;
        out = R.out;
        same_h = λ y q. R.same_h y q ∙ upd_other H in_drop (has n v) y q;
        sameρ = λ y j q. R.sameρ y j q ∙ popped_other ρ in_drop y j q;
        agree = R.agree;
        kept_a = λ l x. R.kept_a l x ∙ put_other A (cell c) given_back l (λ e. nx (subst X e x));
        kept_s = λ l x. R.kept_s l x ∙ put_other S (cell c) given_back l (λ e. nx (subst X e x));
      }
    where
      H₁ : Name → Content
      H₁ = upd H in_drop (has n v)

      nx : X (cell c) → ⊥
      nx x = no_x c 1 x (omega arith) first

      Ac : A (cell c) ≡ open_with w
      Ac = ag (cell c) nx ∙ Sc

      m' : Memory H₁ (lift (put S (cell c) given_back) t (open_with w)) s.taken (popped ρ in_drop)
      m' = pop m in_drop n v c h refl H₁ (upd_same H in_drop (has n v)) (λ y q. upd_other H in_drop (has n v) y q)
          (lift (put S (cell c) given_back) t (open_with w)) (sym Sc) (put_same S (cell c) given_back)
          (λ q a b. lift_other S (cell c) given_back t (open_with w) q b ∙ lift_drop S t (open_with w) (open_with (owner c)) q a)

      ag' : (l : Location) → (X l → ⊥) → put A (cell c) given_back l ≡ put S (cell c) given_back l
      ag' l h = go (spot_dec (spot_of l) (in_cell c))
        where
          go : Dec (spot_of l ≡ in_cell c) → put A (cell c) given_back l ≡ put S (cell c) given_back l
          go (yes e) = let z = spot_inj l (cell c) e in rw (z, put_same A (cell c) given_back, put_same S (cell c) given_back) refl
          go (no e) = put_other A (cell c) given_back l (λ q. e (ap spot_of q)) ∙ ag l h ∙ sym (put_other S (cell c) given_back l (λ q. e (ap spot_of q)))

      no_x' : (d j : ℕ) → X (cell d) → j ≤ n → popped ρ in_drop in_drop j ≢ in_cell d
      no_x' d j x q r = let b = popped_at ρ in_drop j in no_x d b.0 x (omega (arith, b.1)) (sym b.2 ∙ r)

  gone_all : (n : ℕ) → Dropped n
  unfolding Dropped
  gone_all zero H ρ A S u v m h io ag no_x = gone_last H ρ A S u v m h io ag no_x
  gone_all (suc n) H ρ A S u v m h io ag no_x =
      let L = m.link in_drop (suc n) v 0 h (omega arith) in
      let e : open_with u ≡ open_with (owner L.0) = ap (λ (q : Spot). lift S t (open_with u) q) (sym (m.base in_drop)) ∙ L.1 in
      let z : u ≡ owner L.0 = cc in
      let O = row_open m in_drop (suc n) v 1 h (omega arith) in
      subst (λ (y : Value). Gone H t ρ X A S i s y) (sym z)
      (gone_step n (gone_all n) H ρ A S v L.0 O.0 (subst (λ (y : Value). Memory H (lift S t (open_with y)) s.taken ρ) z m) h io L.2
      (ap (λ (q : Spot). lift S t (open_with u) q) (sym L.2) ∙ O.1) ag no_x)

-- The value that the name in_drop has is dropped.
pub dropped : (i : ℕ) (s : State) (H : Name → Content) (t : Row) (ρ : Name → ℕ → Spot) (S : Store) (u v : Value) (n : ℕ)
    → Memory H (lift S t (open_with u)) s.taken ρ → H in_drop ≡ has n v
    → (X : Location → Type 0) (A : Store) → InOrder (with_store s A) → ((l : Location) → (X l → ⊥) → A l ≡ S l)
    → ((c j : ℕ) → X (cell c) → j ≤ n → ρ in_drop j ≢ in_cell c) → Gone H t ρ X A S i s u
unfolding Dropped
dropped i s H t ρ S u v n m h X A io ag no_x = gone_all t X i s n H ρ A S u v m h io ag no_x
