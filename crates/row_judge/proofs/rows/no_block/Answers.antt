-- `row_judge::rows::no_block` meets its contract: behind the last row the kind counts as 0, which is none. Assumes nothing.
use Prim.Native.Nat.{ℕ, ◌+◌, ◌*◌, ◌≤◌}
use native.Mathlib.Omega.{arith}
use mathlib.Core.Path.{◌≡◌, sym, ap, ◌∙◌}
use mathlib.Core.Bool.{Bool, true, false, not, ◌&&◌}
use mathlib.Core.List.{List}
use lib.ListN.{length, get_or, get_or-eq_default}
use lib.Dec.{eqb}
use Rattle.syntax.specs.Parts.{known_in}
use Rattle.syntax.specs.RowParts.{no_block}
use Rattle.row_judge.proofs.rows.no_block.Goals as goal

behind : (v : ℕ) (rows : List ℕ) (i : ℕ) → length rows ≤ 5 * i → false ≡ no_block v rows i
unfolding no_block known_in
behind v rows i h = rw (get_or-eq_default rows 0 {n = 5 * i + 0} (omega arith))

module _ (v : ℕ) (rows : List ℕ) (i : ℕ) (k : Bool) (e : k ≡ known_in v (get_or rows (5 * i) 0)) where
  same : (k && not (eqb (get_or rows (5 * i) 0) 11)) ≡ no_block v rows i
  unfolding no_block
  same =
      let z : 5 * i ≡ 5 * i + 0 = omega arith in
      rw e (ap (λ (n : ℕ). known_in v (get_or rows n 0) && not (eqb (get_or rows n 0) 11)) z)

  of_kind : k ≡ true → not (eqb (get_or rows (5 * i) 0) 11) ≡ no_block v rows i
  of_kind t = ap (λ (b : Bool). b && not (eqb (get_or rows (5 * i) 0) 11)) (sym t) ∙ same

  of_none : k ≡ false → k ≡ no_block v rows i
  of_none t = t ∙ ap (λ (b : Bool). b && not (eqb (get_or rows (5 * i) 0) 11)) (sym t) ∙ same

pub returns-then-rows-at : goal.returns-then-rows-at
returns-then-rows-at c = behind _ _ _ c.if-rows-at.true

pub bounds-rows-at : goal.bounds-rows-at
bounds-rows-at c = c.before.if-rows-at.false

pub returns-then-known : goal.returns-then-known
returns-then-known c = rw c.number.ensures (of_kind _ _ _ _ c.before.known.ensures c.if-known.true)

pub returns-else-known : goal.returns-else-known
returns-else-known c = of_none _ _ _ _ c.before.known.ensures c.if-known.false
