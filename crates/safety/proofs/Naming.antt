-- Two steps of the memory layer: a name gets a row, and a name that owns no cell loses its own.
use Prim.Native.Nat.{ℕ, ◌≤◌, ◌<◌}
use native.Mathlib.Omega.{arith}
use mathlib.Core.Path.{◌≡◌, refl, sym, ap, ◌∙◌}
use mathlib.Core.Logic.{◌≢◌, ◌⊎◌, inl, inr}
use Rattle.dynamics.specs.Values.{Value, Row, closed, open_with}
use Rattle.safety.proofs.Memory.{Name, Spot, top, in_cell, Content, no_row, has, name_dec, Plain, Linked, Owned, Memory, top≢cell, has≢no_row, top_only}

-- ---- a name opened, with a value that owns nothing

module _ {H : Name → Content} {S : Spot → Row} {k : ℕ} {ρ : Name → ℕ → Spot} (m : Memory H S k ρ)
    (b : Name) (v : Value) (pv : Plain v) (Hb : H b ≡ no_row)
    (H' : Name → Content) (H'b : H' b ≡ has 0 v) (H'z : (z : Name) → z ≢ b → H' z ≡ H z)
    (S' : Spot → Row) (S'b : S' (top b) ≡ open_with v) (S'q : (q : Spot) → q ≢ top b → S' q ≡ S q) where
  opened_was : (x : Name) (s : ℕ) (u : Value) → H' x ≡ has s u → ((x ≡ b) × (s ≡ 0) × (u ≡ v)) ⊎ ((x ≢ b) × (H x ≡ has s u))
  opened_was x s u hx = go (name_dec x b)
    where
      go : Dec (x ≡ b) → ((x ≡ b) × (s ≡ 0) × (u ≡ v)) ⊎ ((x ≢ b) × (H x ≡ has s u))
      go (yes p) = let hb : H' b ≡ has s u = ap H' (sym p) ∙ hx in inl (p, (cc), (cc))
      go (no p) = inr (p, sym (H'z x p) ∙ hx)

  opened_stay : (x : Name) (s : ℕ) (u : Value) (i : ℕ) → x ≢ b → H x ≡ has s u → i ≤ s → S' (ρ x i) ≡ S (ρ x i)
  opened_stay x s u i xb hx hi = S'q (ρ x i) (λ r. xb (top_only m x b s u i hx hi r))

  opened_link : (x : Name) (s : ℕ) (u : Value) (i : ℕ) → H' x ≡ has s u → i < s → Linked S' ρ x i
  opened_link x s u i hx hi = go (opened_was x s u hx)
    where
      go : ((x ≡ b) × (s ≡ 0) × (u ≡ v)) ⊎ ((x ≢ b) × (H x ≡ has s u)) → Linked S' ρ x i
      go (inl p) = absurd (omega (arith, p.1))
      go (inr p) = let l = m.link x s u i p.1 hi in (l.0, opened_stay x s u i p.0 p.1 (omega arith) ∙ l.1, l.2)

  opened_leaf : (x : Name) (s : ℕ) (u : Value) → H' x ≡ has s u → (S' (ρ x s) ≡ open_with u) × Plain u
  opened_leaf x s u hx = go (opened_was x s u hx)
    where
      go : ((x ≡ b) × (s ≡ 0) × (u ≡ v)) ⊎ ((x ≢ b) × (H x ≡ has s u)) → (S' (ρ x s) ≡ open_with u) × Plain u
      go (inl p) = (rw (p.1, p.0, m.base b, S'b, ← p.2) refl, rw p.2 pv)
      go (inr p) = (opened_stay x s u s p.0 p.1 (omega arith) ∙ m.leaf x s u p.1, m.plain x s u p.1)

  opened_distinct : (x y : Name) (s t : ℕ) (u w : Value) (i j : ℕ) → H' x ≡ has s u → i ≤ s → H' y ≡ has t w → j ≤ t → ρ x i ≡ ρ y j
      → (x ≡ y) × (i ≡ j)
  opened_distinct x y s t u w i j hx hi hy hj r = go (opened_was x s u hx) (opened_was y t w hy)
    where
      at_b : (x' : Name) (i' s' : ℕ) → x' ≡ b → s' ≡ 0 → i' ≤ s' → ρ x' i' ≡ top b
      at_b x' i' s' p q h = let z : i' ≡ 0 = omega arith in rw (z, p, m.base b) refl

      go : ((x ≡ b) × (s ≡ 0) × (u ≡ v)) ⊎ ((x ≢ b) × (H x ≡ has s u)) → ((y ≡ b) × (t ≡ 0) × (w ≡ v)) ⊎ ((y ≢ b) × (H y ≡ has t w))
          → (x ≡ y) × (i ≡ j)
      go (inl p) (inl q) = (p.0 ∙ sym q.0, omega (arith, p.1, q.1))
      go (inl p) (inr q) = absurd (q.0 (top_only m y b t w j q.1 hj (sym r ∙ at_b x i s p.0 p.1 hi)))
      go (inr p) (inl q) = absurd (p.0 (top_only m x b s u i p.1 hi (r ∙ at_b y j t q.0 q.1 hj)))
      go (inr p) (inr q) = m.distinct x y s t u w i j p.1 hi q.1 hj r

  opened_shut : (x : Name) → H' x ≡ no_row → S' (top x) ≡ closed
  opened_shut x hx = go (name_dec x b)
    where
      go : Dec (x ≡ b) → S' (top x) ≡ closed
      go (yes p) = absurd (has≢no_row H'b (ap H' (sym p) ∙ hx))
      go (no p) = S'q (top x) (λ r. p (cc)) ∙ m.shut x (sym (H'z x p) ∙ hx)

  opened_cell : (c : ℕ) → S' (in_cell c) ≡ S (in_cell c)
  opened_cell c = S'q (in_cell c) (λ r. top≢cell (sym r))

  pub open_name : Memory H' S' k ρ
  open_name = record {
    base = m.base;
    link = opened_link;
    leaf = λ x s u h. (opened_leaf x s u h).0;
    plain = λ x s u h. (opened_leaf x s u h).1;
    shut = opened_shut;
    distinct = opened_distinct;
    owned = λ c u h. let o = m.owned c u (sym (opened_cell c) ∙ h) in
        (o.0, o.1, o.2, o.3, H'z o.0 (λ r. has≢no_row o.4 (ap H r ∙ Hb)) ∙ o.4, o.5, o.6);
    untaken = λ c h. opened_cell c ∙ m.untaken c h;
    taken = λ c h r. m.taken c h (sym (opened_cell c) ∙ r);
  }

-- ---- a name closed that owns nothing

module _ {H : Name → Content} {S : Spot → Row} {k : ℕ} {ρ : Name → ℕ → Spot} (m : Memory H S k ρ)
    (b : Name) (v : Value) (Hb : H b ≡ has 0 v)
    (H' : Name → Content) (H'b : H' b ≡ no_row) (H'z : (z : Name) → z ≢ b → H' z ≡ H z)
    (S' : Spot → Row) (S'b : S' (top b) ≡ closed) (S'q : (q : Spot) → q ≢ top b → S' q ≡ S q) where
  closed_not : (x : Name) (s : ℕ) (u : Value) → H' x ≡ has s u → x ≢ b
  closed_not x s u hx p = has≢no_row hx (ap H' p ∙ H'b)

  closed_was : (x : Name) (s : ℕ) (u : Value) → H' x ≡ has s u → H x ≡ has s u
  closed_was x s u hx = sym (H'z x (closed_not x s u hx)) ∙ hx

  closed_stay : (x : Name) (s : ℕ) (u : Value) (i : ℕ) → H' x ≡ has s u → i ≤ s → S' (ρ x i) ≡ S (ρ x i)
  closed_stay x s u i hx hi = S'q (ρ x i) (λ r. closed_not x s u hx (top_only m x b s u i (closed_was x s u hx) hi r))

  closed_shut : (x : Name) → H' x ≡ no_row → S' (top x) ≡ closed
  closed_shut x hx = go (name_dec x b)
    where
      go : Dec (x ≡ b) → S' (top x) ≡ closed
      go (yes p) = rw p S'b
      go (no p) = S'q (top x) (λ r. p (cc)) ∙ m.shut x (sym (H'z x p) ∙ hx)

  closed_cell : (c : ℕ) → S' (in_cell c) ≡ S (in_cell c)
  closed_cell c = S'q (in_cell c) (λ r. top≢cell (sym r))

  closed_owned : (c : ℕ) (u : Value) → S' (in_cell c) ≡ open_with u → Owned H' ρ c
  closed_owned c u h =
      let o = m.owned c u (sym (closed_cell c) ∙ h) in
      (o.0, o.1, o.2, o.3, H'z o.0 (other o.0 o.1 o.2 o.3 o.4 o.5 o.6) ∙ o.4, o.5, o.6)
    where
      other : (x : Name) (s : ℕ) (w : Value) (i : ℕ) → H x ≡ has s w → i ≤ s → ρ x i ≡ in_cell c → x ≢ b
      other x s w i hx hi r p =
          let hb : H b ≡ has s w = ap H (sym p) ∙ hx in
          let sz : s ≡ 0 = cc in
          let z : i ≡ 0 = omega arith in
          top≢cell (sym (m.base x) ∙ ap (λ (t : ℕ). ρ x t) (sym z) ∙ r)

  pub close_name : Memory H' S' k ρ
  close_name = record {
    base = m.base;
    link = λ x s u i hx hi. let l = m.link x s u i (closed_was x s u hx) hi in (l.0, closed_stay x s u i hx (omega arith) ∙ l.1, l.2);
    leaf = λ x s u hx. closed_stay x s u s hx (omega arith) ∙ m.leaf x s u (closed_was x s u hx);
    plain = λ x s u hx. m.plain x s u (closed_was x s u hx);
    shut = closed_shut;
    distinct = λ x y s t u w i j hx hi hy hj r. m.distinct x y s t u w i j (closed_was x s u hx) hi (closed_was y t w hy) hj r;
    owned = closed_owned;
    untaken = λ c h. closed_cell c ∙ m.untaken c h;
    taken = λ c h r. m.taken c h (sym (closed_cell c) ∙ r);
  }
