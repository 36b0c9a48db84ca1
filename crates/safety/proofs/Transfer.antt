-- The own part of a from link d on becomes the own part of b from its empty link e on.
use Prim.Native.Nat.{ℕ, suc, ◌+◌, ◌-◌, ◌≤◌, ◌<◌, zero-le}
use native.Mathlib.Omega.{arith}
use native.Mathlib.Decide.{dec_lt}
use mathlib.Core.Path.{◌≡◌, refl, sym, ap, ◌∙◌, subst}
use mathlib.Core.Logic.{◌≢◌, ◌⊎◌, inl, inr}
use Rattle.dynamics.specs.Values.{Value, empty, Row, closed, open_with}
use Rattle.dynamics.proofs.Apart.{open≢closed}
use Rattle.statics.proofs.Choose.{choose, choose_yes, choose_no, choose_same}
use Rattle.safety.proofs.Memory.{Name, Spot, top, in_cell, Content, no_row, has, name_dec, spot_dec, Plain, p_empty, Linked, Owned, Memory, has≢no_row, row_open, top_only}

-- Where the own links of z are afterwards.
pub moved : (Name → ℕ → Spot) → Name → ℕ → Name → ℕ → Name → ℕ → Spot
moved ρ a d b e z i = choose (name_dec z b) (choose (dec_lt e i) (ρ a (d + (i - e))) (ρ z i)) (ρ z i)

moved_up : (ρ : Name → ℕ → Spot) (a : Name) (d : ℕ) (b : Name) (e i : ℕ) → e < i → moved ρ a d b e b i ≡ ρ a (d + (i - e))
unfolding moved
moved_up ρ a d b e i h = choose_yes (name_dec b b) _ _ refl ∙ choose_yes (dec_lt e i) _ _ h

pub moved_low : (ρ : Name → ℕ → Spot) (a : Name) (d : ℕ) (b : Name) (e : ℕ) (z : Name) (i : ℕ) → i ≤ e → moved ρ a d b e z i ≡ ρ z i
unfolding moved
moved_low ρ a d b e z i h =
    ap (λ (q : Spot). choose (name_dec z b) q (ρ z i)) (choose_no (dec_lt e i) (ρ a (d + (i - e))) (ρ z i) (λ q. omega arith)) ∙ choose_same (name_dec z b) (ρ z i)

pub moved_other : (ρ : Name → ℕ → Spot) (a : Name) (d : ℕ) (b : Name) (e : ℕ) (z : Name) (i : ℕ) → z ≢ b → moved ρ a d b e z i ≡ ρ z i
unfolding moved
moved_other ρ a d b e z i h = choose_no (name_dec z b) _ _ h

module _ {H : Name → Content} {S : Spot → Row} {k : ℕ} {ρ : Name → ℕ → Spot} (m : Memory H S k ρ)
    (a b : Name) (d e n : ℕ) (v : Value) (Ha : H a ≡ has n v) (dn : d ≤ n) (Hb : H b ≡ has e empty) (ab : a ≢ b)
    (H' : Name → Content) (H'a : H' a ≡ has d empty) (H'b : H' b ≡ has (e + (n - d)) v) (H'z : (z : Name) → z ≢ a → z ≢ b → H' z ≡ H z)
    (S' : Spot → Row) (S'a : S' (ρ a d) ≡ open_with empty) (S'b : S' (ρ b e) ≡ S (ρ a d))
    (S'q : (q : Spot) → q ≢ ρ a d → q ≢ ρ b e → S' q ≡ S q) where
  abbrev ρ' : Name → ℕ → Spot
  ρ' = moved ρ a d b e

  -- Two positions before, told apart.
  apart : (x y : Name) (s t : ℕ) (u w : Value) (i j : ℕ) → H x ≡ has s u → i ≤ s → H y ≡ has t w → j ≤ t → (x ≢ y ⊎ i ≢ j) → ρ x i ≢ ρ y j
  apart x y s t u w i j hx hi hy hj (inl q) r = q (m.distinct x y s t u w i j hx hi hy hj r).0
  apart x y s t u w i j hx hi hy hj (inr q) r = q (m.distinct x y s t u w i j hx hi hy hj r).1

  stay : (x : Name) (s : ℕ) (u : Value) (i : ℕ) → H x ≡ has s u → i ≤ s → (x ≢ a ⊎ i ≢ d) → (x ≢ b ⊎ i ≢ e) → S' (ρ x i) ≡ S (ρ x i)
  stay x s u i hx hi p q = S'q (ρ x i) (apart x a s n u v i d hx hi Ha dn p) (apart x b s e u empty i e hx hi Hb (omega arith) q)

  link' : (x : Name) (s : ℕ) (u : Value) (i : ℕ) → H' x ≡ has s u → i < s → Linked S' ρ' x i
  link' x s u i hx hi = cases (name_dec x b) (name_dec x a)
    where
      Goal : Name → Type 0
      Goal y = Linked S' ρ' y i

      -- x is b.
      low : H' b ≡ has s u → i < e → Goal b
      low hb q =
          let l = m.link b e empty i Hb q in
          (l.0, rw (moved_low ρ a d b e b i (omega arith), stay b e empty i Hb (omega arith) (inl (λ r. ab (sym r))) (inr (omega arith))) l.1, rw (moved_low ρ a d b e b (suc i) q) l.2)

      seam : H' b ≡ has s u → i ≡ e → d < n → Goal b
      seam hb q r =
          let l = m.link a n v d Ha r in
          (l.0, rw (moved_low ρ a d b e b i (omega arith), q, S'b) l.1, rw (moved_up ρ a d b e (suc i) (omega arith)) (ap (λ (t : ℕ). ρ a t) (omega arith) ∙ l.2))

      up : H' b ≡ has s u → e < i → i < e + (n - d) → Goal b
      up hb q r =
          let l = m.link a n v (d + (i - e)) Ha (omega arith) in
          (l.0, rw (moved_up ρ a d b e i q, stay a n v (d + (i - e)) Ha (omega arith) (inr (omega arith)) (inl ab)) l.1, rw (moved_up ρ a d b e (suc i) (omega arith)) (ap (λ (t : ℕ). ρ a t) (omega arith) ∙ l.2))

      at_b : H' b ≡ has s u → Goal b
      at_b hb =
          let sz : s ≡ e + (n - d) = cc in
          three (dec_lt i e) (dec_lt e i)
        where
          three : Dec (i < e) → Dec (e < i) → Goal b
          three (yes p) q = low hb p
          three (no p) (yes q) = up hb q (let sz : s ≡ e + (n - d) = cc in omega arith)
          three (no p) (no q) = seam hb (omega arith) (let sz : s ≡ e + (n - d) = cc in omega arith)

      at_a : H' a ≡ has s u → Goal a
      at_a ha =
          let sz : s ≡ d = cc in
          let l = m.link a n v i Ha (omega arith) in
          (l.0, rw (moved_other ρ a d b e a i ab, stay a n v i Ha (omega arith) (inr (omega arith)) (inl ab)) l.1, rw (moved_other ρ a d b e a (suc i) ab) l.2)

      at_z : x ≢ b → x ≢ a → Goal x
      at_z xb xa =
          let hz : H x ≡ has s u = sym (H'z x xa xb) ∙ hx in
          let l = m.link x s u i hz hi in
          (l.0, rw (moved_other ρ a d b e x i xb, stay x s u i hz (omega arith) (inl xa) (inl xb)) l.1, rw (moved_other ρ a d b e x (suc i) xb) l.2)

      cases : Dec (x ≡ b) → Dec (x ≡ a) → Goal x
      cases (yes p) q = subst Goal (sym p) (at_b (ap H' (sym p) ∙ hx))
      cases (no p) (yes q) = subst Goal (sym q) (at_a (ap H' (sym q) ∙ hx))
      cases (no p) (no q) = at_z p q

  -- A position after, as it was before: the same one, or one that a had.
  Same : Name → ℕ → Type 0
  Same z i = (s : ℕ) × (u : Value) × (H z ≡ has s u) × (i ≤ s) × (ρ' z i ≡ ρ z i) × (z ≡ a → i ≤ d)

  Came : Name → ℕ → Type 0
  Came z i = (z ≡ b) × (e < i) × (i ≤ e + (n - d)) × (ρ' z i ≡ ρ a (d + (i - e)))

  was : (z : Name) (s : ℕ) (u : Value) (i : ℕ) → H' z ≡ has s u → i ≤ s → Same z i ⊎ Came z i
  unfolding Same Came
  was z s u i hz hi = cases (name_dec z b) (name_dec z a)
    where
      at_b : (z ≡ b) → H' b ≡ has s u → Dec (e < i) → Same z i ⊎ Came z i
      at_b p hb (yes q) = let sz : s ≡ e + (n - d) = cc in inr (p, q, omega arith, rw (p, moved_up ρ a d b e i q))
      at_b p hb (no q) =
          inl (e, empty, ap H p ∙ Hb, omega arith, moved_low ρ a d b e z i (omega arith), λ r. absurd (ab (sym r ∙ p)))

      cases : Dec (z ≡ b) → Dec (z ≡ a) → Same z i ⊎ Came z i
      cases (yes p) q = at_b p (ap H' (sym p) ∙ hz) (dec_lt e i)
      cases (no p) (yes q) =
          let ha : H' a ≡ has s u = ap H' (sym q) ∙ hz in
          let sz : s ≡ d = cc in
          inl (n, v, ap H q ∙ Ha, omega arith, moved_other ρ a d b e z i p, λ r. omega arith)
      cases (no p) (no q) = inl (s, u, sym (H'z z q p) ∙ hz, hi, moved_other ρ a d b e z i p, λ r. absurd (q r))

  distinct' : (x y : Name) (s t : ℕ) (u w : Value) (i j : ℕ) → H' x ≡ has s u → i ≤ s → H' y ≡ has t w → j ≤ t → ρ' x i ≡ ρ' y j → (x ≡ y) × (i ≡ j)
  unfolding Same Came
  distinct' x y s t u w i j hx hi hy hj r = go (was x s u i hx hi) (was y t w j hy hj)
    where
      mix : (x' y' : Name) (i' j' : ℕ) → Same x' i' → Came y' j' → ρ' x' i' ≡ ρ' y' j' → ⊥
      mix x' y' i' j' o c r' =
          let p = m.distinct x' a o.0 n o.1 v i' (d + (j' - e)) o.2 o.3 Ha (omega (arith, c.2)) (sym o.4 ∙ r' ∙ c.3) in
          let z = o.5 p.0 in
          omega (arith, p.1, c.1)

      go : Same x i ⊎ Came x i → Same y j ⊎ Came y j → (x ≡ y) × (i ≡ j)
      go (inl p) (inl q) = m.distinct x y p.0 q.0 p.1 q.1 i j p.2 p.3 q.2 q.3 (sym p.4 ∙ r ∙ q.4)
      go (inl p) (inr q) = absurd (mix x y i j p q r)
      go (inr p) (inl q) = absurd (mix y x j i q p (sym r))
      go (inr p) (inr q) =
          let z = m.distinct a a n n v v (d + (i - e)) (d + (j - e)) Ha (omega (arith, p.2)) Ha (omega (arith, q.2)) (sym p.3 ∙ r ∙ q.3) in
          (p.0 ∙ sym q.0, omega (arith, z.1, p.1, q.1))

  leaf' : (x : Name) (s : ℕ) (u : Value) → H' x ≡ has s u → S' (ρ' x s) ≡ open_with u
  leaf' x s u hx = cases (name_dec x b) (name_dec x a)
    where
      at_b : H' b ≡ has s u → Dec (d < n) → S' (ρ' b s) ≡ open_with u
      at_b hb (yes q) =
          let sz : s ≡ e + (n - d) = cc in
          let z : d + (s - e) ≡ n = omega arith in
          let uv : v ≡ u = cc in
          rw (moved_up ρ a d b e s (omega arith), z, stay a n v n Ha (omega arith) (inr (omega arith)) (inl ab), m.leaf a n v Ha, uv) refl
      at_b hb (no q) =
          let sz : s ≡ e + (n - d) = cc in
          let z : d ≡ n = omega arith in
          let w : s ≡ e = omega arith in
          let uv : v ≡ u = cc in
          rw (moved_low ρ a d b e b s (omega arith), w, S'b, z, m.leaf a n v Ha, uv) refl

      cases : Dec (x ≡ b) → Dec (x ≡ a) → S' (ρ' x s) ≡ open_with u
      cases (yes p) q = rw p (at_b (ap H' (sym p) ∙ hx) (dec_lt d n))
      cases (no p) (yes q) =
          let ha : H' a ≡ has s u = ap H' (sym q) ∙ hx in
          let sz : s ≡ d = cc in
          let uv : empty ≡ u = cc in
          rw (q, moved_other ρ a d b e a s ab, sz, S'a, uv) refl
      cases (no p) (no q) =
          let hz : H x ≡ has s u = sym (H'z x q p) ∙ hx in
          rw (moved_other ρ a d b e x s p, stay x s u s hz (omega arith) (inl q) (inl p)) (m.leaf x s u hz)

  plain' : (x : Name) (s : ℕ) (u : Value) → H' x ≡ has s u → Plain u
  plain' x s u hx = cases (name_dec x b) (name_dec x a)
    where
      cases : Dec (x ≡ b) → Dec (x ≡ a) → Plain u
      cases (yes p) q =
          let hb : H' b ≡ has s u = ap H' (sym p) ∙ hx in
          let uv : v ≡ u = cc in
          rw uv at (m.plain a n v Ha)
      cases (no p) (yes q) =
          let ha : H' a ≡ has s u = ap H' (sym q) ∙ hx in
          let uv : empty ≡ u = cc in
          rw uv at p_empty
      cases (no p) (no q) = m.plain x s u (sym (H'z x q p) ∙ hx)

  shut' : (x : Name) → H' x ≡ no_row → S' (top x) ≡ closed
  shut' x hx = go (name_dec x a) (name_dec x b)
    where
      go : Dec (x ≡ a) → Dec (x ≡ b) → S' (top x) ≡ closed
      go (yes p) q = absurd (has≢no_row H'a (ap H' (sym p) ∙ hx))
      go (no p) (yes q) = absurd (has≢no_row H'b (ap H' (sym q) ∙ hx))
      go (no p) (no q) =
          S'q (top x) (λ r. p (sym (top_only m a x n v d Ha dn (sym r)))) (λ r. q (sym (top_only m b x e empty e Hb (omega arith) (sym r)))) ∙ m.shut x (sym (H'z x p q) ∙ hx)

  owned' : (c : ℕ) (u : Value) → S' (in_cell c) ≡ open_with u → Owned H' ρ' c
  owned' c u h = go (spot_dec (in_cell c) (ρ a d)) (spot_dec (in_cell c) (ρ b e))
    where
      Goal : Type 0
      Goal = Owned H' ρ' c

      from : (x : Name) (s : ℕ) (w : Value) (i : ℕ) → H x ≡ has s w → i ≤ s → ρ x i ≡ in_cell c → Dec (x ≡ a) → Dec (x ≡ b) → Dec (d < i) → Goal
      from x s w i hx hi r (yes p) q (yes t) =
          let ha : H a ≡ has s w = ap H (sym p) ∙ hx in
          let sz : s ≡ n = cc in
          let z : d + ((e + (i - d)) - e) ≡ i = omega arith in
          (b, e + (n - d), v, e + (i - d), H'b, omega arith, rw (moved_up ρ a d b e (e + (i - d)) (omega arith), z, ← p) r)
      from x s w i hx hi r (yes p) q (no t) = (a, d, empty, i, H'a, omega arith, moved_other ρ a d b e a i ab ∙ rw (← p) r)
      from x s w i hx hi r (no p) (yes q) t =
          let hb : H b ≡ has s w = ap H (sym q) ∙ hx in
          let sz : s ≡ e = cc in
          (b, e + (n - d), v, i, H'b, omega arith, moved_low ρ a d b e b i (omega arith) ∙ rw (← q) r)
      from x s w i hx hi r (no p) (no q) t = (x, s, w, i, H'z x p q ∙ hx, hi, moved_other ρ a d b e x i q ∙ r)

      go : Dec (in_cell c ≡ ρ a d) → Dec (in_cell c ≡ ρ b e) → Goal
      go (yes p) q = (a, d, empty, d, H'a, omega arith, moved_other ρ a d b e a d ab ∙ sym p)
      go (no p) (yes q) = (b, e + (n - d), v, e, H'b, omega arith, moved_low ρ a d b e b e (omega arith) ∙ sym q)
      go (no p) (no q) =
          let o = m.owned c u (sym (S'q (in_cell c) p q) ∙ h) in
          from o.0 o.1 o.2 o.3 o.4 o.5 o.6 (name_dec o.0 a) (name_dec o.0 b) (dec_lt d o.3)

  untaken' : (c : ℕ) → k ≤ c → S' (in_cell c) ≡ closed
  untaken' c h =
      S'q (in_cell c)
      (λ r. open≢closed (row_open m a n v d Ha dn).1 (ap S (sym r) ∙ m.untaken c h))
      (λ r. open≢closed (row_open m b e empty e Hb (omega arith)).1 (ap S (sym r) ∙ m.untaken c h))
      ∙ m.untaken c h

  taken' : (c : ℕ) → c < k → S' (in_cell c) ≢ closed
  taken' c h = go (spot_dec (in_cell c) (ρ a d)) (spot_dec (in_cell c) (ρ b e))
    where
      go : Dec (in_cell c ≡ ρ a d) → Dec (in_cell c ≡ ρ b e) → S' (in_cell c) ≢ closed
      go (yes p) q r = open≢closed S'a (ap S' (sym p) ∙ r)
      go (no p) (yes q) r = open≢closed (S'b ∙ (row_open m a n v d Ha dn).1) (ap S' (sym q) ∙ r)
      go (no p) (no q) r = m.taken c h (sym (S'q (in_cell c) p q) ∙ r)

  pub transfer : Memory H' S' k (moved ρ a d b e)
  transfer = record {
    base = λ x. moved_low ρ a d b e x 0 zero-le ∙ m.base x;
    link = link';
    leaf = leaf';
    plain = plain';
    shut = shut';
    distinct = distinct';
    owned = owned';
    untaken = untaken';
    taken = taken';
  }
