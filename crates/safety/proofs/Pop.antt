-- A step of the memory layer: the first cell that a name owns is given back, and the name has what it held.
use Prim.Native.Nat.{ℕ, zero, suc, ◌≤◌, ◌<◌, zero-le}
use native.Mathlib.Omega.{arith}
use native.Mathlib.Decide.{ℕ_discrete}
use mathlib.Core.Path.{◌≡◌, refl, sym, ap, ◌∙◌}
use mathlib.Core.Logic.{◌≢◌, ◌⊎◌, inl, inr}
use Rattle.dynamics.specs.Values.{Value, owner, Row, closed, given_back, open_with}
use Rattle.dynamics.proofs.Apart.{open≢closed}
use Rattle.statics.proofs.Choose.{choose, choose_yes, choose_no}
use Rattle.safety.proofs.Memory.{Name, Spot, top, in_cell, Content, has, name_dec, Linked, Owned, Memory, top≢cell, row_open, top_only}
use Rattle.safety.proofs.OneName.{one_name, still_owned}

-- The own link that link i of z was.
was_at : Name → Name → ℕ → ℕ
was_at b z zero = zero
was_at b z (suc i) = choose (name_dec z b) (suc (suc i)) (suc i)

was_at_other : (b z : Name) (i : ℕ) → z ≢ b → was_at b z i ≡ i
unfolding was_at
was_at_other b z zero h = refl
was_at_other b z (suc i) h = choose_no (name_dec z b) _ _ h

was_at_self : (b : Name) (i : ℕ) → was_at b b (suc i) ≡ suc (suc i)
unfolding was_at
was_at_self b i = choose_yes (name_dec b b) _ _ refl

pub popped : (Name → ℕ → Spot) → Name → Name → ℕ → Spot
popped ρ b z i = ρ z (was_at b z i)

pub popped_other : (ρ : Name → ℕ → Spot) (b z : Name) (i : ℕ) → z ≢ b → popped ρ b z i ≡ ρ z i
unfolding popped
popped_other ρ b z i h = ap (λ (t : ℕ). ρ z t) (was_at_other b z i h)

-- Each row of b was one of b's.
pub popped_at : (ρ : Name → ℕ → Spot) (b : Name) (j : ℕ) → (l : ℕ) × (l ≤ suc j) × (popped ρ b b j ≡ ρ b l)
unfolding popped was_at
popped_at ρ b zero = (0, zero-le, refl)
popped_at ρ b (suc j) = (suc (suc j), omega arith, ap (λ (t : ℕ). ρ b t) (was_at_self b j))

module _ {H : Name → Content} {S : Spot → Row} {k : ℕ} {ρ : Name → ℕ → Spot} (m : Memory H S k ρ)
    (b : Name) (n : ℕ) (v : Value) (c : ℕ) (Hb : H b ≡ has (suc n) v) (Sb : S (top b) ≡ open_with (owner c))
    (H' : Name → Content) (H'b : H' b ≡ has n v) (H'z : (z : Name) → z ≢ b → H' z ≡ H z)
    (S' : Spot → Row) (S'b : S' (top b) ≡ S (in_cell c)) (S'c : S' (in_cell c) ≡ given_back) (S'q : (q : Spot) → q ≢ top b → q ≢ in_cell c → S' q ≡ S q) where
  abbrev ρ' : Name → ℕ → Spot
  ρ' = popped ρ b

  first : ρ b 1 ≡ in_cell c
  first =
      let l = m.link b (suc n) v 0 Hb (omega arith) in
      let q : open_with (owner l.0) ≡ open_with (owner c) = sym l.1 ∙ ap S (m.base b) ∙ Sb in
      l.2 ∙ ap in_cell (cc)

  stay : (x : Name) (s : ℕ) (u : Value) (i : ℕ) → H x ≡ has s u → i ≤ s → (x ≢ b ⊎ 2 ≤ i) → S' (ρ x i) ≡ S (ρ x i)
  stay x s u i hx hi w = S'q (ρ x i) (n1 w) (n2 w)
    where
      n1 : (x ≢ b ⊎ 2 ≤ i) → ρ x i ≢ top b
      n1 (inl p) r = p (top_only m x b s u i hx hi r)
      n1 (inr p) r = let q = m.distinct x b s (suc n) u v i 0 hx hi Hb zero-le (r ∙ sym (m.base b)) in omega (arith, q.1)

      n2 : (x ≢ b ⊎ 2 ≤ i) → ρ x i ≢ in_cell c
      n2 (inl p) r = p (m.distinct x b s (suc n) u v i 1 hx hi Hb (omega arith) (r ∙ sym first)).0
      n2 (inr p) r = let q = m.distinct x b s (suc n) u v i 1 hx hi Hb (omega arith) (r ∙ sym first) in omega (arith, q.1)

  top_was : (s : ℕ) (u : Value) → H' b ≡ has s u → (s ≡ n) × (u ≡ v)
  top_was s u h = ((cc), (cc))

  link_b : (i : ℕ) → i < n → Linked S' ρ' b i
  unfolding popped was_at
  link_b zero h =
      let l = m.link b (suc n) v 1 Hb (omega arith) in
      (l.0, ap S' (m.base b) ∙ S'b ∙ ap S (sym first) ∙ l.1, rw (was_at_self b 0) l.2)
  link_b (suc i) h =
      let l = m.link b (suc n) v (suc (suc i)) Hb (omega arith) in
      (l.0, rw (was_at_self b i) (stay b (suc n) v (suc (suc i)) Hb (omega arith) (inr (omega arith)) ∙ l.1), rw (was_at_self b (suc i)) l.2)

  leaf_b : (i : ℕ) → i ≡ n → S' (ρ' b i) ≡ open_with v
  unfolding popped was_at
  leaf_b zero h = ap S' (m.base b) ∙ S'b ∙ ap S (sym first) ∙ ap (λ (t : ℕ). S (ρ b t)) (omega arith) ∙ m.leaf b (suc n) v Hb
  leaf_b (suc i) h =
      rw (was_at_self b i) (stay b (suc n) v (suc (suc i)) Hb (omega arith) (inr (omega arith)) ∙ ap (λ (t : ℕ). S (ρ b t)) (omega arith) ∙ m.leaf b (suc n) v Hb)

  -- The position before.
  was : (x : Name) (s : ℕ) (u : Value) (i : ℕ) → H' x ≡ has s u → i ≤ s → (t : ℕ) × (H x ≡ has t u) × (was_at b x i ≤ t)
  unfolding was_at
  was x s u i hx hi = go (name_dec x b)
    where
      small : (j : ℕ) → was_at b b j ≤ suc j
      small zero = zero-le
      small (suc j) = omega (arith, was_at_self b j)

      go : Dec (x ≡ b) → (t : ℕ) × (H x ≡ has t u) × (was_at b x i ≤ t)
      go (yes p) =
          let q = top_was s u (ap H' (sym p) ∙ hx) in
          (suc n, ap H p ∙ Hb ∙ ap (λ (w : Value). has (suc n) w) (sym q.1), rw p (let z = small i in omega (arith, q.0)))
      go (no p) = (s, sym (H'z x p) ∙ hx, rw (was_at_other b x i p) hi)

  same : (x : Name) (i j : ℕ) → was_at b x i ≡ was_at b x j → i ≡ j
  unfolding was_at
  same x i j = go (name_dec x b) i j
    where
      un : (y : Name) (j : ℕ) → y ≡ b → was_at b y (suc j) ≡ suc (suc j)
      un y j p = rw p (was_at_self b j)

      go : Dec (x ≡ b) → (i j : ℕ) → was_at b x i ≡ was_at b x j → i ≡ j
      go (yes p) zero zero r = refl
      go (yes p) zero (suc j) r = absurd (omega (arith, un x j p))
      go (yes p) (suc i) zero r = absurd (omega (arith, un x i p))
      go (yes p) (suc i) (suc j) r = omega (arith, un x i p, un x j p)
      go (no p) i j r = sym (was_at_other b x i p) ∙ r ∙ was_at_other b x j p

  distinct' : (x y : Name) (s t : ℕ) (u w : Value) (i j : ℕ) → H' x ≡ has s u → i ≤ s → H' y ≡ has t w → j ≤ t → ρ' x i ≡ ρ' y j → (x ≡ y) × (i ≡ j)
  unfolding popped
  distinct' x y s t u w i j hx hi hy hj r =
      let a = was x s u i hx hi in
      let a' = was y t w j hy hj in
      let q = m.distinct x y a.0 a'.0 u w (was_at b x i) (was_at b y j) a.1 a.2 a'.1 a'.2 r in
      (q.0, same x i j (q.1 ∙ ap (λ (z : Name). was_at b z j) (sym q.0)))

  owned' : (d : ℕ) (u : Value) → S' (in_cell d) ≡ open_with u → Owned H' ρ' d
  unfolding popped
  owned' d u h = go (ℕ_discrete d c)
    where
      Goal : Type 0
      Goal = Owned H' ρ' d

      at_b : (i : ℕ) → i ≤ suc n → d ≢ c → ρ b i ≡ in_cell d → Goal
      at_b zero hi ne r = absurd (top≢cell (sym (m.base b) ∙ r))
      at_b (suc zero) hi ne r = absurd (ne (let q : in_cell c ≡ in_cell d = sym first ∙ r in cc))
      at_b (suc (suc i)) hi ne r = (b, n, v, suc i, H'b, omega arith, ap (λ (t : ℕ). ρ b t) (was_at_self b i) ∙ r)

      go : Dec (d ≡ c) → Goal
      go (yes p) =
          let z : ◌≡◌ {A = Row} given_back (open_with u) = sym S'c ∙ ap (λ (t : ℕ). S' (in_cell t)) (sym p) ∙ h in
          let y : ◌≡◌ {A = ℕ} 0 1 = cc in
          absurd (omega arith)
      go (no p) = still_owned m b (suc n) n v c Hb H' H'b H'z S' S'q ρ' (popped_other ρ b) d u p h (λ i hi. at_b i hi p)

  cell_open : (u : Value) × (S (in_cell c) ≡ open_with u)
  cell_open = let o = row_open m b (suc n) v 1 Hb (omega arith) in (o.0, ap S (sym first) ∙ o.1)

  untaken' : (d : ℕ) → k ≤ d → S' (in_cell d) ≡ closed
  untaken' d h = S'q (in_cell d) (λ r. top≢cell (sym r)) (λ r. open≢closed cell_open.1 (ap S (sym r) ∙ m.untaken d h)) ∙ m.untaken d h

  taken' : (d : ℕ) → d < k → S' (in_cell d) ≢ closed
  taken' d h = go (ℕ_discrete d c)
    where
      go : Dec (d ≡ c) → S' (in_cell d) ≢ closed
      go (yes p) r =
          let z : ◌≡◌ {A = Row} given_back closed = sym S'c ∙ ap (λ (t : ℕ). S' (in_cell t)) (sym p) ∙ r in
          let y : ◌≡◌ {A = ℕ} 0 1 = cc in
          omega arith
      go (no p) r = m.taken d h (sym (S'q (in_cell d) (λ r. top≢cell (sym r)) (λ r. p (cc))) ∙ r)

  pub pop : Memory H' S' k (popped ρ b)
  unfolding popped was_at
  pop = let rest = one_name m b (suc n) n v c Hb H' H'b H'z S' S'q ρ' (popped_other ρ b) (λ x s u i hx hi p. stay x s u i hx hi (inl p)) link_b leaf_b in record {
    base = m.base;
    link = rest.0;
    leaf = λ x s u h. (rest.1 x s u h).0;
    plain = λ x s u h. (rest.1 x s u h).1;
    shut = rest.2;
    distinct = distinct';
    owned = owned';
    untaken = untaken';
    taken = taken';
  }
