-- The invariant at the end of a script whose value is a number: no variable is in scope, and nothing is open.
use Prim.Native.Nat.{ℕ, ◌≤◌, ◌<◌, zero-le}
use native.Mathlib.Omega.{arith}
use mathlib.Core.Path.{◌≡◌, refl, sym, ap, ◌∙◌, subst}
use mathlib.Core.Logic.{◌≢◌}
use mathlib.Core.Option.{some}
use mathlib.Core.List.{List, []}
use Rattle.statics.specs.Links.{Link, leading_boxes}
use Rattle.statics.specs.Environment.{Variable, live, Environment, Ty}
use Rattle.statics.specs.Uses.{Unfinished}
use Rattle.dynamics.specs.Values.{variable, cell, Value, num, Row, closed, given_back, open_with}
use Rattle.dynamics.specs.Store.{State}
use Rattle.safety.proofs.Memory.{Name, in_flight, in_drop, var, Spot, in_cell, no_row, has, name_dec, var≢flight, top≢cell, has≢no_row}
use Rattle.safety.proofs.Lifted.{lift}
use Rattle.safety.proofs.Ghost as Gh
use Rattle.safety.proofs.Typing.{Fits, boxes}
use Rattle.safety.proofs.Chains.{fits_nil}
use Rattle.safety.proofs.Covering.{covered_back}
use Rattle.safety.proofs.Invariant.{Member, Invariant, drop_no_row}
use Rattle.safety.proofs.InFlight.{flying, flying_whole}

module _ {nv : ℕ} {ns : Unfinished} {Γ : Environment} {t : Ty} {s : State} {v : Value} (I : Invariant nv ns Γ (some t) 0 s v) (none_open : s.opened ≡ []) (nil : t.links ≡ []) where
  -- The outermost block has closed all that it opened, and there is no other.
  none_live : (x : ℕ) (q : Variable) → Γ x ≢ live q
  none_live x q e = subst (λ (k : List ℕ). Member x k) none_open ((I.scope x q e).0 zero-le)

  -- The answer is a number.
  pub answer_num : (n : ℕ) × (I.H in_flight ≡ has 0 (num n))
  unfolding leading_boxes
  answer_num =
      let q = (flying I).0 in
      let A = I.typed.at in_flight q (flying I).1 in
      let c : q.chain ≡ [] = (flying I).2.chain ∙ nil in
      let z : boxes q ≡ 0 = ap leading_boxes c in
      let b : q.borrow ≡ Gh.no_borrow = fits_nil q.borrow (subst (λ (k : List Link). Fits k q.borrow) c A.fits) in
      let N = A.number (flying_whole I) b in
      (N.0, N.1 ∙ ap (λ (k : ℕ). has k (num N.0)) z)

  pub answer_is : v ≡ num answer_num.0
  answer_is =
      let e : open_with v ≡ open_with (num answer_num.0) = ap (λ (k : Spot). lift s.store (open_with v) closed k) (sym (I.mem.base in_flight)) ∙ I.mem.leaf in_flight 0 (num answer_num.0) answer_num.1 in
      cc

  -- No other name has a row: so no variable is open, and an open cell would be the answer's, which owns none.
  no_rows : (z : Name) → z ≢ in_flight → I.H z ≡ no_row
  no_rows in_flight n = absurd (n refl)
  no_rows in_drop n = drop_no_row I
  no_rows (var x) n =
      I.typed.absent (var x) (λ g. g) (λ q e. let u = covered_back (I.Θ (var x)) (Γ x) q (I.vars x) e in none_live x u.0 u.1)

  pub variable_closed : (x : ℕ) → s.store (variable x) ≡ closed
  variable_closed x = I.mem.shut (var x) (no_rows (var x) var≢flight)

  cell_not_open : (c : ℕ) (u : Value) → s.store (cell c) ≢ open_with u
  cell_not_open c u e =
      let o = I.mem.owned c u e in
      go o.0 o.1 o.2 o.3 o.4 o.5 o.6 (name_dec o.0 in_flight)
    where
      go : (x : Name) (n : ℕ) (w : Value) (d : ℕ) → I.H x ≡ has n w → d ≤ n → I.ρ x d ≡ in_cell c → Dec (x ≡ in_flight) → ⊥
      go x n w d h l r (yes k) =
          let q : I.H in_flight ≡ has n w = ap I.H (sym k) ∙ h in
          let f : has 0 (num answer_num.0) ≡ has n w = sym answer_num.1 ∙ q in
          let z : 0 ≡ n = cc in
          let y : d ≡ 0 = omega arith in
          top≢cell (sym (I.mem.base x) ∙ ap (λ (j : ℕ). I.ρ x j) (sym y) ∙ r)
      go x n w d h l r (no k) = has≢no_row h (no_rows x k)

  pub cell_given : (c : ℕ) → c < s.taken → s.store (cell c) ≡ given_back
  cell_given c h = go (s.store (cell c)) refl
    where
      go : (r : Row) → s.store (cell c) ≡ r → s.store (cell c) ≡ given_back
      go closed e = absurd (I.mem.taken c h e)
      go given_back e = e
      go (open_with u) e = absurd (cell_not_open c u e)
