-- A step of the memory layer: a new cell takes what a name has, and the name owns it.
use Prim.Native.Nat.{ℕ, zero, suc, ◌≤◌, ◌<◌, zero-le}
use native.Mathlib.Omega.{arith}
use native.Mathlib.Decide.{ℕ_discrete}
use mathlib.Core.Path.{◌≡◌, refl, sym, ap, ◌∙◌}
use mathlib.Core.Logic.{◌≢◌, ◌⊎◌, inl, inr}
use Rattle.dynamics.specs.Values.{Value, owner, Row, closed, open_with}
use Rattle.dynamics.proofs.Apart.{open≢closed}
use Rattle.statics.proofs.Choose.{choose, choose_yes, choose_no}
use Rattle.safety.proofs.Memory.{Name, Spot, top, in_cell, Content, has, name_dec, Linked, Owned, Memory, top≢cell, row_open, top_only}
use Rattle.safety.proofs.OneName.{one_name, still_owned}

pub pushed : (Name → ℕ → Spot) → Name → ℕ → Name → ℕ → Spot
pushed ρ b k z zero = ρ z zero
pushed ρ b k z (suc zero) = choose (name_dec z b) (in_cell k) (ρ z 1)
pushed ρ b k z (suc (suc i)) = choose (name_dec z b) (ρ z (suc i)) (ρ z (suc (suc i)))

pub pushed_other : (ρ : Name → ℕ → Spot) (b : Name) (k : ℕ) (z : Name) (i : ℕ) → z ≢ b → pushed ρ b k z i ≡ ρ z i
unfolding pushed
pushed_other ρ b k z zero h = refl
pushed_other ρ b k z (suc zero) h = choose_no (name_dec z b) _ _ h
pushed_other ρ b k z (suc (suc i)) h = choose_no (name_dec z b) _ _ h

pushed_one : (ρ : Name → ℕ → Spot) (b : Name) (k : ℕ) → pushed ρ b k b 1 ≡ in_cell k
unfolding pushed
pushed_one ρ b k = choose_yes (name_dec b b) _ _ refl

pushed_more : (ρ : Name → ℕ → Spot) (b : Name) (k i : ℕ) → pushed ρ b k b (suc (suc i)) ≡ ρ b (suc i)
unfolding pushed
pushed_more ρ b k i = choose_yes (name_dec b b) _ _ refl

module _ {H : Name → Content} {S : Spot → Row} {k : ℕ} {ρ : Name → ℕ → Spot} (m : Memory H S k ρ)
    (b : Name) (n : ℕ) (v : Value) (Hb : H b ≡ has n v)
    (H' : Name → Content) (H'b : H' b ≡ has (suc n) v) (H'z : (z : Name) → z ≢ b → H' z ≡ H z)
    (S' : Spot → Row) (S'b : S' (top b) ≡ open_with (owner k)) (S'c : S' (in_cell k) ≡ S (top b)) (S'q : (q : Spot) → q ≢ top b → q ≢ in_cell k → S' q ≡ S q) where
  abbrev ρ' : Name → ℕ → Spot
  ρ' = pushed ρ b k

  fresh : (x : Name) (s : ℕ) (u : Value) (i : ℕ) → H x ≡ has s u → i ≤ s → ρ x i ≢ in_cell k
  fresh x s u i hx hi r = open≢closed (row_open m x s u i hx hi).1 (ap S r ∙ m.untaken k (omega arith))

  stay : (x : Name) (s : ℕ) (u : Value) (i : ℕ) → H x ≡ has s u → i ≤ s → (x ≢ b ⊎ 1 ≤ i) → S' (ρ x i) ≡ S (ρ x i)
  stay x s u i hx hi w = S'q (ρ x i) (n1 w) (fresh x s u i hx hi)
    where
      n1 : (x ≢ b ⊎ 1 ≤ i) → ρ x i ≢ top b
      n1 (inl p) r = p (top_only m x b s u i hx hi r)
      n1 (inr p) r = let q = m.distinct x b s n u v i 0 hx hi Hb zero-le (r ∙ sym (m.base b)) in omega (arith, q.1)

  top_was : (s : ℕ) (u : Value) → H' b ≡ has s u → (s ≡ suc n) × (u ≡ v)
  top_was s u h = ((cc), (cc))

  link_b : (i : ℕ) → i < suc n → Linked S' ρ' b i
  unfolding pushed
  link_b zero h = (k, ap S' (m.base b) ∙ S'b, pushed_one ρ b k)
  link_b (suc zero) h =
      let l = m.link b n v 0 Hb (omega arith) in
      (l.0, rw (pushed_one ρ b k, S'c, ← (m.base b)) l.1, pushed_more ρ b k 0 ∙ l.2)
  link_b (suc (suc i)) h =
      let l = m.link b n v (suc i) Hb (omega arith) in
      (l.0, rw (pushed_more ρ b k i) (stay b n v (suc i) Hb (omega arith) (inr (omega arith)) ∙ l.1), pushed_more ρ b k (suc i) ∙ l.2)

  leaf_b : (i : ℕ) → i ≡ suc n → S' (ρ' b i) ≡ open_with v
  unfolding pushed
  leaf_b zero h = absurd (omega arith)
  leaf_b (suc zero) h = rw (pushed_one ρ b k, S'c, ← (m.base b)) (ap (λ (t : ℕ). S (ρ b t)) (omega arith) ∙ m.leaf b n v Hb)
  leaf_b (suc (suc i)) h =
      rw (pushed_more ρ b k i) (stay b n v (suc i) Hb (omega arith) (inr (omega arith)) ∙ ap (λ (t : ℕ). S (ρ b t)) (omega arith) ∙ m.leaf b n v Hb)

  -- A position after: the new cell, or a position before.
  was : (x : Name) (s : ℕ) (u : Value) (i : ℕ) → H' x ≡ has s u → i ≤ s
      → ((x ≡ b) × (i ≡ 1)) ⊎ ((t : ℕ) × (j : ℕ) × (H x ≡ has t u) × (j ≤ t) × (ρ' x i ≡ ρ x j) × ((x ≡ b × 2 ≤ i × i ≡ suc j) ⊎ ((x ≡ b → i ≡ 0) × (i ≡ j))))
  unfolding pushed
  was x s u i hx hi = go (name_dec x b) i hi
    where
      Was : ℕ → Type 0
      Was i =
          ((x ≡ b) × (i ≡ 1)) ⊎ ((t : ℕ) × (j : ℕ) × (H x ≡ has t u) × (j ≤ t) × (ρ' x i ≡ ρ x j) × ((x ≡ b × 2 ≤ i × i ≡ suc j) ⊎ ((x ≡ b → i ≡ 0) × (i ≡ j))))

      hb : x ≡ b → H x ≡ has n u
      hb p = let q = top_was s u (ap H' (sym p) ∙ hx) in ap H p ∙ Hb ∙ ap (λ (w : Value). has n w) (sym q.1)

      more : (j : ℕ) → x ≡ b → ρ' x (suc (suc j)) ≡ ρ x (suc j)
      more j p = rw p (pushed_more ρ b k j)

      go : Dec (x ≡ b) → (i : ℕ) → i ≤ s → Was i
      go (yes p) zero h = inr (n, 0, hb p, zero-le, refl, inr (λ r. refl, refl))
      go (yes p) (suc zero) h = inl (p, refl)
      go (yes p) (suc (suc j)) h =
          let q = top_was s u (ap H' (sym p) ∙ hx) in
          inr (n, suc j, hb p, omega (arith, q.0), more j p, inl (p, omega arith, refl))
      go (no p) i h = inr (s, i, sym (H'z x p) ∙ hx, h, pushed_other ρ b k x i p, inr (λ r. absurd (p r), refl))

  distinct' : (x y : Name) (s t : ℕ) (u w : Value) (i j : ℕ) → H' x ≡ has s u → i ≤ s → H' y ≡ has t w → j ≤ t → ρ' x i ≡ ρ' y j → (x ≡ y) × (i ≡ j)
  distinct' x y s t u w i j hx hi hy hj r = go (was x s u i hx hi) (was y t w j hy hj)
    where
      Was : Name → Value → ℕ → Type 0
      Was x u i = (t : ℕ) × (j : ℕ) × (H x ≡ has t u) × (j ≤ t) × (ρ' x i ≡ ρ x j) × ((x ≡ b × 2 ≤ i × i ≡ suc j) ⊎ ((x ≡ b → i ≡ 0) × (i ≡ j)))

      one : (z : Name) (l : ℕ) → z ≡ b → l ≡ 1 → ρ' z l ≡ in_cell k
      one z l p q = rw (p, q) (pushed_one ρ b k)

      same : (i j i' j' : ℕ) → x ≡ y → i' ≡ j' → ((x ≡ b × 2 ≤ i × i ≡ suc i') ⊎ ((x ≡ b → i ≡ 0) × (i ≡ i')))
          → ((y ≡ b × 2 ≤ j × j ≡ suc j') ⊎ ((y ≡ b → j ≡ 0) × (j ≡ j'))) → i ≡ j
      same i j i' j' e q (inl f) (inl g) = omega (arith, f.2, g.2)
      same i j i' j' e q (inl f) (inr g) = let z = g.0 (sym e ∙ f.0) in omega (arith, f.1, f.2, g.1)
      same i j i' j' e q (inr f) (inl g) = let z = f.0 (e ∙ g.0) in omega (arith, g.1, g.2, f.1)
      same i j i' j' e q (inr f) (inr g) = omega (arith, f.1, g.1)

      go : ((x ≡ b) × (i ≡ 1)) ⊎ Was x u i → ((y ≡ b) × (j ≡ 1)) ⊎ Was y w j → (x ≡ y) × (i ≡ j)
      go (inl p) (inl q) = (p.0 ∙ sym q.0, p.1 ∙ sym q.1)
      go (inl p) (inr q) = absurd (fresh y q.0 w q.1 q.2 q.3 (sym q.4 ∙ sym r ∙ one x i p.0 p.1))
      go (inr p) (inl q) = absurd (fresh x p.0 u p.1 p.2 p.3 (sym p.4 ∙ r ∙ one y j q.0 q.1))
      go (inr p) (inr q) =
          let z = m.distinct x y p.0 q.0 u w p.1 q.1 p.2 p.3 q.2 q.3 (sym p.4 ∙ r ∙ q.4) in
          (z.0, same i j p.1 q.1 z.0 z.1 p.5 q.5)

  owned' : (d : ℕ) (u : Value) → S' (in_cell d) ≡ open_with u → Owned H' ρ' d
  owned' d u h = go (ℕ_discrete d k)
    where
      Goal : Type 0
      Goal = Owned H' ρ' d

      at_b : (i : ℕ) → i ≤ n → ρ b i ≡ in_cell d → Goal
      at_b zero hi r = absurd (top≢cell (sym (m.base b) ∙ r))
      at_b (suc i) hi r = (b, suc n, v, suc (suc i), H'b, omega arith, pushed_more ρ b k i ∙ r)

      go : Dec (d ≡ k) → Goal
      go (yes p) = (b, suc n, v, 1, H'b, omega arith, pushed_one ρ b k ∙ ap in_cell (sym p))
      go (no p) = still_owned m b n (suc n) v k Hb H' H'b H'z S' S'q ρ' (pushed_other ρ b k) d u p h at_b

  untaken' : (d : ℕ) → suc k ≤ d → S' (in_cell d) ≡ closed
  untaken' d h = S'q (in_cell d) (λ r. top≢cell (sym r)) (λ r. let z : d ≡ k = cc in omega arith) ∙ m.untaken d (omega arith)

  taken' : (d : ℕ) → d < suc k → S' (in_cell d) ≢ closed
  taken' d h = go (ℕ_discrete d k)
    where
      go : Dec (d ≡ k) → S' (in_cell d) ≢ closed
      go (yes p) r = open≢closed (S'c ∙ ap S (sym (m.base b)) ∙ (row_open m b n v 0 Hb zero-le).1) (ap (λ (t : ℕ). S' (in_cell t)) (sym p) ∙ r)
      go (no p) r = m.taken d (omega arith) (sym (S'q (in_cell d) (λ r. top≢cell (sym r)) (λ r. p (cc))) ∙ r)

  pub push : Memory H' S' (suc k) (pushed ρ b k)
  unfolding pushed
  push = let rest = one_name m b n (suc n) v k Hb H' H'b H'z S' S'q ρ' (pushed_other ρ b k) (λ x s u i hx hi p. stay x s u i hx hi (inl p)) link_b leaf_b in record {
    base = m.base;
    link = rest.0;
    leaf = λ x s u h. (rest.1 x s u h).0;
    plain = λ x s u h. (rest.1 x s u h).1;
    shut = rest.2;
    distinct = distinct';
    owned = owned';
    untaken = untaken';
    taken = taken';
  }
