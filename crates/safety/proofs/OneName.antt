-- The chain of one name changes, and one cell with it: what the others have stays.
use Prim.Native.Nat.{ℕ, suc, ◌≤◌, ◌<◌}
use native.Mathlib.Omega.{arith}
use mathlib.Core.Path.{◌≡◌, sym, ap, ◌∙◌, subst}
use mathlib.Core.Logic.{◌≢◌}
use Rattle.dynamics.specs.Values.{Value, Row, closed, open_with}
use Rattle.safety.proofs.Memory.{Name, Spot, top, in_cell, Content, no_row, has, name_dec, Plain, Linked, Owned, Memory, top≢cell, has≢no_row}

module _ {H : Name → Content} {S : Spot → Row} {k : ℕ} {ρ : Name → ℕ → Spot} (m : Memory H S k ρ)
    (b : Name) (n n' : ℕ) (v : Value) (c : ℕ) (Hb : H b ≡ has n v)
    (H' : Name → Content) (H'b : H' b ≡ has n' v) (H'z : (z : Name) → z ≢ b → H' z ≡ H z)
    (S' : Spot → Row) (S'q : (q : Spot) → q ≢ top b → q ≢ in_cell c → S' q ≡ S q)
    (ρ' : Name → ℕ → Spot) (other : (x : Name) (i : ℕ) → x ≢ b → ρ' x i ≡ ρ x i) where
  top_was : (s : ℕ) (u : Value) → H' b ≡ has s u → (s ≡ n') × (u ≡ v)
  top_was s u h = ((cc), (cc))

  abbrev Stays : Type 0
  Stays = (x : Name) (s : ℕ) (u : Value) (i : ℕ) → H x ≡ has s u → i ≤ s → x ≢ b → S' (ρ x i) ≡ S (ρ x i)

  chains : Stays → ((i : ℕ) → i < n' → Linked S' ρ' b i) → (x : Name) (s : ℕ) (u : Value) (i : ℕ) → H' x ≡ has s u → i < s → Linked S' ρ' x i
  chains stay link_b x s u i hx hi = go (name_dec x b)
    where
      go : Dec (x ≡ b) → Linked S' ρ' x i
      go (yes p) = subst (λ (y : Name). Linked S' ρ' y i) (sym p) (link_b i (let q = top_was s u (ap H' (sym p) ∙ hx) in omega (arith, q.0)))
      go (no p) =
          let hz : H x ≡ has s u = sym (H'z x p) ∙ hx in
          let l = m.link x s u i hz hi in
          (l.0, rw (other x i p) (stay x s u i hz (omega arith) p ∙ l.1), rw (other x (suc i) p) l.2)

  leaves : Stays → ((i : ℕ) → i ≡ n' → S' (ρ' b i) ≡ open_with v) → (x : Name) (s : ℕ) (u : Value) → H' x ≡ has s u → (S' (ρ' x s) ≡ open_with u) × Plain u
  leaves stay leaf_b x s u hx = go (name_dec x b)
    where
      go : Dec (x ≡ b) → (S' (ρ' x s) ≡ open_with u) × Plain u
      go (yes p) =
          let q = top_was s u (ap H' (sym p) ∙ hx) in
          (rw (p, q.1) (leaf_b s q.0), rw q.1 (m.plain b n v Hb))
      go (no p) =
          let hz : H x ≡ has s u = sym (H'z x p) ∙ hx in
          (rw (other x s p) (stay x s u s hz (omega arith) p ∙ m.leaf x s u hz), m.plain x s u hz)

  still_shut : (x : Name) → H' x ≡ no_row → S' (top x) ≡ closed
  still_shut x hx = go (name_dec x b)
    where
      go : Dec (x ≡ b) → S' (top x) ≡ closed
      go (yes p) = absurd (has≢no_row H'b (ap H' (sym p) ∙ hx))
      go (no p) = S'q (top x) (λ r. p (cc)) top≢cell ∙ m.shut x (sym (H'z x p) ∙ hx)

  -- The chains, what stands at their ends, and the names that have no row.
  pub one_name : Stays → ((i : ℕ) → i < n' → Linked S' ρ' b i) → ((i : ℕ) → i ≡ n' → S' (ρ' b i) ≡ open_with v)
      → ((x : Name) (s : ℕ) (u : Value) (i : ℕ) → H' x ≡ has s u → i < s → Linked S' ρ' x i)
      × ((x : Name) (s : ℕ) (u : Value) → H' x ≡ has s u → (S' (ρ' x s) ≡ open_with u) × Plain u)
      × ((x : Name) → H' x ≡ no_row → S' (top x) ≡ closed)
  one_name stay link_b leaf_b = (chains stay link_b, leaves stay leaf_b, still_shut)

  -- A cell other than c that is open was some name's; at b it has moved along the chain.
  pub still_owned : (d : ℕ) (u : Value) → d ≢ c → S' (in_cell d) ≡ open_with u → ((i : ℕ) → i ≤ n → ρ b i ≡ in_cell d → Owned H' ρ' d) → Owned H' ρ' d
  still_owned d u ne h at_b =
      let o = m.owned d u (sym (S'q (in_cell d) (λ r. top≢cell (sym r)) (λ r. ne (cc))) ∙ h) in
      from o.0 o.1 o.2 o.3 o.4 o.5 o.6 (name_dec o.0 b)
    where
      from : (x : Name) (s : ℕ) (w : Value) (i : ℕ) → H x ≡ has s w → i ≤ s → ρ x i ≡ in_cell d → Dec (x ≡ b) → Owned H' ρ' d
      from x s w i hx hi r (yes p) =
          let hb : H b ≡ has s w = ap H (sym p) ∙ hx in
          let sz : s ≡ n = cc in
          at_b i (omega arith) (rw (← p) r)
      from x s w i hx hi r (no p) = (x, s, w, i, H'z x p ∙ hx, hi, other x i p ∙ r)
