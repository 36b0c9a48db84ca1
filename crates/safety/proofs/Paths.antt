-- The run follows a place to the row of the own link to which the rules lead.
use Prim.Native.Nat.{ℕ, zero, suc, ◌+◌, ◌-◌, ◌≤◌, ◌<◌, zero-le}
use native.Mathlib.Omega.{arith}
use native.Mathlib.Nat.{zero-add, suc-add}
use native.Mathlib.Decide.{dec_le, dec_lt}
use mathlib.Core.Path.{◌≡◌, refl, sym, ap, ap₂, ◌∙◌}
use mathlib.Core.Option.{some}
use Rattle.syntax.specs.Result.{ok, ◌>>=◌, need}
use Rattle.syntax.specs.Script.{Place}
use Rattle.statics.specs.Links.{leading_boxes}
use Rattle.dynamics.specs.Values.{Location, variable, cell, Value, empty, num, owner, reference, Row, open_with}
use Rattle.dynamics.specs.Store.{is_open, State}
use Rattle.dynamics.specs.Locate.{followed, locate_from}
use Rattle.safety.proofs.Memory.{Name, var, Spot, Content, has, Memory, row_open}
use Rattle.safety.proofs.Lifted.{spot_of, lift, lift_at}
use Rattle.safety.proofs.Ghost.{Borrow, no_borrow, stale, shared_of, exclusive_of, Variable, Slot, live}
use Rattle.safety.proofs.Typing.{borrowed, boxes, Reach, here, hop, Typed}

locate_owner : (s : State) (i : ℕ) (l : Location) (c r : ℕ) → s.store l ≡ open_with (owner c)
    → locate_from s i l (suc r) ≡ locate_from s i (cell c) r
unfolding locate_from followed ◌>>=◌
locate_owner s i l c r e = rw e refl

locate_reference : (s : State) (i : ℕ) (l l' : Location) (r : ℕ) → s.store l ≡ open_with (reference l')
    → locate_from s i l (suc r) ≡ locate_from s i l' r
unfolding locate_from followed ◌>>=◌
locate_reference s i l l' r e = rw e refl

locate_end : (s : State) (i : ℕ) (l : Location) (v : Value) → s.store l ≡ open_with v → locate_from s i l 0 ≡ ok l
unfolding locate_from need is_open ◌>>=◌
locate_end s i l v e = rw e refl

-- ---- a derivation taken apart

pub inv_here : {Γ : Name → Slot} {w x : Name} {d r : ℕ} (Q : Variable) → Reach Γ w d x r → Γ x ≡ live Q → r ≤ leading_boxes Q.chain
    → (w ≡ x) × (d ≡ r)
inv_here Q (here Q' e a b) h q = (refl, refl)
inv_here Q (hop Q' p e f a b D) h q =
    let z : Q' ≡ Q = cc in
    absurd (let y : leading_boxes Q'.chain ≡ leading_boxes Q.chain = ap (λ (k : Variable). leading_boxes k.chain) z in omega arith)

pub inv_hop : {Γ : Name → Slot} {w x : Name} {d r : ℕ} (Q : Variable) (p : Place) → Reach Γ w d x r → Γ x ≡ live Q → borrowed Q.borrow ≡ some p
    → leading_boxes Q.chain < r
    → Reach Γ w d (var p.root) (p.follows + (r - suc (leading_boxes Q.chain)))
inv_hop Q p (here Q' e a b) h f q =
    let z : Q' ≡ Q = cc in
    absurd (let y : leading_boxes Q'.chain ≡ leading_boxes Q.chain = ap (λ (k : Variable). leading_boxes k.chain) z in omega arith)
inv_hop Q p (hop Q' p' e f' a b D) h f q =
    let z : Q' ≡ Q = cc in
    let y : some p' ≡ some p = sym f' ∙ ap (λ (k : Variable). borrowed k.borrow) z ∙ f in
    let u : p' ≡ p = cc in
    rw (z, u) at D

-- Where a path ends.
pub end_live : {Γ : Name → Slot} {w : Name} {d : ℕ} {x : Name} {r : ℕ} → Reach Γ w d x r → (W : Variable) × (Γ w ≡ live W) × (d ≤ boxes W) × (d ≤ W.moved_from)
end_live (here Q e a b) = (Q, e, a, b)
end_live (hop Q p e f a b D) = end_live D

-- Where a place leads is determined.
pub unique : {Γ : Name → Slot} {w w' : Name} {d d' : ℕ} {x : Name} {r : ℕ} → Reach Γ w d x r → Reach Γ w' d' x r → (w ≡ w') × (d ≡ d')
unique (here Q e a b) E = let z = inv_here Q E e a in (sym z.0, sym z.1)
unique (hop Q p e f a b D) E = unique D (inv_hop Q p E e f b)

-- A beginning of a path leads somewhere.
pub prefix : {Γ : Name → Slot} {w : Name} {d : ℕ} {x : Name} {r : ℕ} (g j : ℕ) → Reach Γ w d x r → r ≡ g + j → (w' : Name) × (d' : ℕ) × Reach Γ w' d' x g
prefix {Γ} {w} g j (here Q e a b) q = (w, g, here Q e (omega arith) (omega arith))
prefix {Γ} {w} {d} {x} {r} g j (hop Q p e f a b D) q = go (dec_le g (boxes Q)) (λ k h. prefix k j D h)
  where
    go : Dec (g ≤ boxes Q) → ((k : ℕ) → p.follows + (r - suc (boxes Q)) ≡ k + j → (w' : Name) × (d' : ℕ) × Reach Γ w' d' (var p.root) k)
        → (w' : Name) × (d' : ℕ) × Reach Γ w' d' x g
    go (yes u) ih = (x, g, here Q e u (omega arith))
    go (no u) ih = let R = ih (p.follows + (g - suc (boxes Q))) (omega arith) in (R.0, R.1, hop {r = g} Q p e f a (omega arith) R.2)

module _ {nv : ℕ} {G : Name → Type 0} {Γ : Name → Slot} {H : Name → Content} {ρ : Name → ℕ → Spot} {rank : Name → ℕ} (s : State) (t o : Row) (i : ℕ)
    (m : Memory H (lift s.store t o) s.taken ρ) (T : Typed nv G Γ H ρ rank) where
  -- An own link that is there has a row.
  pub has_row : (x : Name) (Q : Variable) (d : ℕ) → Γ x ≡ live Q → d ≤ boxes Q → d ≤ Q.moved_from → (n : ℕ) × (v : Value) × (H x ≡ has n v) × (d ≤ n)
  has_row x Q d e a b = go (dec_lt (boxes Q) Q.moved_from) Q.borrow refl
    where
      go : Dec (boxes Q < Q.moved_from) → (k : Borrow) → Q.borrow ≡ k → (n : ℕ) × (v : Value) × (H x ≡ has n v) × (d ≤ n)
      go (yes h) no_borrow q = let n = (T.at x Q e).number h q in (boxes Q, num n.0, n.1, a)
      go (yes h) stale q = let n = (T.at x Q e).outdated h q in (boxes Q, reference n.0, n.1, a)
      go (yes h) (shared_of p) q = let R = (T.at x Q e).refs h p (ap borrowed q) in (boxes Q, reference R.l, R.shape, a)
      go (yes h) (exclusive_of p) q = let R = (T.at x Q e).refs h p (ap borrowed q) in (boxes Q, reference R.l, R.shape, a)
      go (no h) k q = (Q.moved_from, empty, (T.at x Q e).lost (omega arith), b)

  at_row : (x : Name) (j : ℕ) (l : Location) (r : Row) → spot_of l ≡ ρ x j → lift s.store t o (ρ x j) ≡ r → s.store l ≡ r
  at_row x j l r e h = sym (lift_at s.store t o l) ∙ ap (λ (q : Spot). lift s.store t o q) e ∙ h

  -- j follows along boxes.
  along_boxes : (j : ℕ) (x : Name) (n : ℕ) (v : Value) (b : ℕ) (l : Location) → H x ≡ has n v → b + j ≤ n → spot_of l ≡ ρ x b
      → (l' : Location) × (spot_of l' ≡ ρ x (b + j)) × ((r : ℕ) → locate_from s i l (j + r) ≡ locate_from s i l' r)
  along_boxes zero x n v b l h f e = (l, e ∙ ap (λ (q : ℕ). ρ x q) (omega arith), λ r. ap (λ (q : ℕ). locate_from s i l q) (zero-add r))
  along_boxes (suc j) x n v b l h f e =
      let k = m.link x n v b h (omega arith) in
      let R = along_boxes j x n v (suc b) (cell k.0) h (omega arith) (sym k.2) in
      (R.0, R.1 ∙ ap (λ (q : ℕ). ρ x q) (omega arith), λ r. ap (λ (q : ℕ). locate_from s i l q) (suc-add j r) ∙ locate_owner s i l k.0 (j + r) (at_row x b l (open_with (owner k.0)) e k.1) ∙ R.2 r)

  LeadsOn : Name → ℕ → Name → ℕ → Type 0
  LeadsOn w d x r = (w' : Name) (d' b j : ℕ) (l : Location) → Reach Γ w' d' x b → r ≡ b + j → spot_of l ≡ ρ w' d'
      → (l' : Location) × (spot_of l' ≡ ρ w d) × (locate_from s i l j ≡ ok l')

  rest_here : (w : Name) (d : ℕ) (Q : Variable) → Γ w ≡ live Q → d ≤ boxes Q → d ≤ Q.moved_from → LeadsOn w d w d
  unfolding LeadsOn
  rest_here w d Q e f g w' d' b j l E q h =
      let z = inv_here Q E e (omega arith) in
      let n = has_row w Q d e f g in
      let R = along_boxes j w n.0 n.1 b l n.2 (omega (arith, n.3)) (h ∙ ap₂ ρ z.0 z.1) in
      let u = row_open m w n.0 n.1 d n.2 n.3 in
      let y : ρ w (b + j) ≡ ρ w d = ap (λ (c : ℕ). ρ w c) (omega arith) in
      (R.0, R.1 ∙ y, ap (λ (c : ℕ). locate_from s i l c) (omega arith) ∙ R.2 0 ∙ locate_end s i R.0 u.0 (at_row w d R.0 (open_with u.0) (R.1 ∙ y) u.1))

  rest_hop : (w : Name) (d : ℕ) (x : Name) (r : ℕ) (Q : Variable) (p : Place) → Γ x ≡ live Q → borrowed Q.borrow ≡ some p → boxes Q < Q.moved_from
      → boxes Q < r
      → Reach Γ w d (var p.root) (p.follows + (r - suc (boxes Q))) → LeadsOn w d (var p.root) (p.follows + (r - suc (boxes Q)))
      → LeadsOn w d x r
  unfolding LeadsOn
  rest_hop w d x r Q p e f a c D₀ D w' d' b j l E q h = go (dec_le b (boxes Q))
    where
      Goal : Type 0
      Goal = (l' : Location) × (spot_of l' ≡ ρ w d) × (locate_from s i l j ≡ ok l')

      go : Dec (b ≤ boxes Q) → Goal
      go (yes u) =
          let K = (T.at x Q e).refs a p f in
          let z = inv_here Q E e u in
          let R = along_boxes (boxes Q - b) x (boxes Q) (reference K.l) b l K.shape (omega arith) (h ∙ ap₂ ρ z.0 z.1) in
          let y : ρ x (b + (boxes Q - b)) ≡ ρ x (boxes Q) = ap (λ (c : ℕ). ρ x c) (omega arith) in
          let P = prefix p.follows (r - suc (boxes Q)) D₀ refl in
          let M = D P.0 P.1 p.follows (r - suc (boxes Q)) K.l P.2 refl (K.row P.0 P.1 P.2) in
          (M.0, M.1, ap (λ (c : ℕ). locate_from s i l c) (omega arith) ∙ R.2 (suc (r - suc (boxes Q))) ∙ locate_reference s i R.0 K.l (r - suc (boxes Q)) (at_row x (boxes Q) R.0 (open_with (reference K.l)) (R.1 ∙ y) (m.leaf x (boxes Q) (reference K.l) K.shape)) ∙ M.2)
      go (no u) =
          D w' d' (p.follows + (b - suc (boxes Q))) j l (inv_hop Q p E e f (omega arith)) (omega arith) h

  -- The rest of a path, from the row to which a beginning of it leads.
  rest : {w : Name} {d : ℕ} {x : Name} {r : ℕ} → Reach Γ w d x r → LeadsOn w d x r
  rest {w} {d} (here Q e f g) = rest_here w d Q e f g
  rest {w} {d} {x} {r} (hop Q p e f a c D) = rest_hop w d x r Q p e f a c D (rest D)

  -- A place is located where the rules lead.
  pub located : (x : ℕ) (r : ℕ) (w : Name) (d : ℕ) → Reach Γ w d (var x) r
      → (l : Location) × (spot_of l ≡ ρ w d) × (locate_from s i (variable x) r ≡ ok l)
  unfolding LeadsOn
  located x r w d D = rest D (var x) 0 0 r (variable x) (start D) (omega arith) (sym (m.base (var x)))
    where
      start : Reach Γ w d (var x) r → Reach Γ (var x) 0 (var x) 0
      start E = begin (var x) E
        where
          begin : (y : Name) {e : ℕ} → Reach Γ w d y e → Reach Γ y 0 y 0
          begin y (here Q e f g) = here Q e zero-le zero-le
          begin y (hop Q p e f a c E) = here Q e zero-le zero-le
