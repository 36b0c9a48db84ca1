-- Rows that decode hold their tree from row 0 on, row by row: what check and machine rely on.
use Prim.Native.Nat.{ℕ, zero, suc, ◌+◌, ◌-◌, ◌*◌, ◌≤◌}
use native.Mathlib.Omega.{arith}
use native.Mathlib.Numerals.{add-one, sub-one}
use mathlib.Core.Path.{◌≡◌, ap, ◌∙◌}
use mathlib.Core.Bool.{true}
use mathlib.Core.Option.{some}
use mathlib.Core.List.{List}
use lib.ListN.{length, get_or, length-drop, length-append}
use lib.Dec.{eqb}
use borrow.Author.Tests.{le-leb, lt-ltb, eq-eqb}
use Rattle.syntax.specs.Result.{ok}
use Rattle.syntax.specs.Limits.{Limits, row_numbers}
use Rattle.syntax.specs.Script.{Term, Terms, number, reading, copy, move, borrow_shared, borrow_exclusive, box, declare, assign, below, block, choice, sum, last, more}
use Rattle.syntax.specs.Kinds.{byte_of, newest, kind_of, fields}
use Rattle.syntax.specs.Layout.{in_rows, others, lay, lays}
use Rattle.syntax.specs.Reader.{branch, decode}
use Rattle.syntax.specs.Measures.{size, sizes, depth, depths, kind_in}
use Rattle.syntax.specs.Within.{Formed, FormedAll, Under}
use Rattle.syntax.specs.RowParts.{field_at}
use Rattle.syntax.specs.RowTrees.{RowTree, several_at, terms_at, kind_at, tree_at}
use Rattle.syntax.proofs.KindBytes.{has, added_most}
use Rattle.syntax.proofs.Parts.{counts}
use Rattle.syntax.proofs.RoundTrip.{decoded, laid_rows}
use Rattle.syntax.proofs.View.{values, Stands, row, in_box, in_let, in_assign, in_block, in_choice, at_last, at_more, stands}

module _ (l : Limits) (rs : List ℕ) where
  abbrev tree : ℕ → ℕ → RowTree Term
  tree d i = tree_at l.variables d rs i

  room : (i : ℕ) (t : Term) → Stands rs i (lay in_rows t) → 5 * i + 5 ≤ length rs
  room i t s = omega (arith, simp (length-drop, length-append) at (ap length s.is), laid_rows t, (counts t).terms)

  kind_found : (i : ℕ) (t : Term) → Stands rs i (lay in_rows t) → kind_of newest (field_at rs i 0) ≡ some (kind_in t)
  kind_found i t s =
      let z : 5 * i + 0 ≡ 5 * i = omega arith in
      ap (λ (n : ℕ). kind_of newest (get_or rs n 0)) z ∙ ap (kind_of newest) (row rs i t s).kind ∙ has newest (kind_in t) (added_most (kind_in t))

  by_kind : (d i : ℕ) (t : Term) → depth t ≤ d → Stands rs i (lay in_rows t) → tree d i ≡ kind_at (some (kind_in t)) l.variables (tree (d - 1)) rs i
  unfolding tree_at
  by_kind zero i t h s = absurd (omega (arith, (counts t).levels))
  by_kind (suc d) i t h s = rw (sub-one, le-leb (5 * i + 5) (length rs) (room i t s), kind_found i t s)

  -- A block, from its terms.
  block_here : (i j : ℕ) (ts : Terms) → Stands rs i (lay in_rows (block j ts)) → eqb (field_at rs i 0) 11 ≡ true
  unfolding byte_of kind_in
  block_here i j ts s =
      let z : 5 * i + 0 ≡ 5 * i = omega arith in
      eq-eqb (field_at rs i 0) 11 (ap (λ (n : ℕ). get_or rs n 0) z ∙ (row rs i (block j ts) s).kind)

  block_stands : (j : ℕ) (ts : Terms) (d i : ℕ) → j ≡ i → suc (depths ts) ≤ d → Stands rs i (lay in_rows (block j ts)) → several_at (tree (d - 1)) (others ts) (suc i) ≡ some (ts, suc i + sizes ts) → tree d i ≡ some (block j ts, i + suc (sizes ts))
  unfolding kind_at terms_at kind_in values depth
  block_stands j ts d i e h s q =
      by_kind d i (block j ts) h s ∙ rw ((row rs i (block j ts) s).one, add-one i, q, e) (ap (λ (k : ℕ). some (block i ts, k)) (omega arith))

  mutual
    unfolding kind_at branch several_at terms_at kind_in values others size sizes depth depths Formed FormedAll fields

    standing : (t : Term) (d i : ℕ) → depth t ≤ d → Formed l i t → Stands rs i (lay in_rows t) → tree d i ≡ some (t, i + size t)
    standing (number j n) d i h f s = by_kind d i (number j n) h s ∙ rw ((row rs i (number j n) s).one, f.0)
    standing (reading j n) d i h f s = by_kind d i (reading j n) h s ∙ rw ((row rs i (reading j n) s).one, lt-ltb n 8 f.1.0.1, f.0)
    standing (copy j p) d i h f s =
        let r = row rs i (copy j p) s in
        by_kind d i (copy j p) h s ∙ rw (r.one, r.two, lt-ltb p.root l.variables f.1.0.1, f.0)
    standing (move j p) d i h f s =
        let r = row rs i (move j p) s in
        by_kind d i (move j p) h s ∙ rw (r.one, r.two, lt-ltb p.root l.variables f.1.0.1, f.0)
    standing (borrow_shared j p) d i h f s =
        let r = row rs i (borrow_shared j p) s in
        by_kind d i (borrow_shared j p) h s ∙ rw (r.one, r.two, lt-ltb p.root l.variables f.1.0.1, f.0)
    standing (borrow_exclusive j p) d i h f s =
        let r = row rs i (borrow_exclusive j p) s in
        by_kind d i (borrow_exclusive j p) h s ∙ rw (r.one, r.two, lt-ltb p.root l.variables f.1.0.1, f.0)
    standing (below j p q) d i h f s =
        let r = row rs i (below j p q) s in
        by_kind d i (below j p q) h s
        ∙ rw (r.one, r.two, r.three, r.four, lt-ltb p.root l.variables f.1.0.1, lt-ltb q.root l.variables f.1.1.1.0.1, f.0)
    standing (sum j p q) d i h f s =
        let r = row rs i (sum j p q) s in
        by_kind d i (sum j p q) h s
        ∙ rw (r.one, r.two, r.three, r.four, lt-ltb p.root l.variables f.1.0.1, lt-ltb q.root l.variables f.1.1.1.0.1, f.0)
    standing (box j t) d i h f s =
        by_kind d i (box j t) h s ∙ rw (add-one i, standing t (d - 1) (suc i) (omega arith) f.2 (in_box rs i j t s), f.0) (ap (λ (k : ℕ). some (box i t, k)) (omega arith))
    standing (declare j x t) d i h f s =
        by_kind d i (declare j x t) h s
        ∙ rw ((row rs i (declare j x t) s).one, lt-ltb x l.variables f.1.0.1, add-one i, standing t (d - 1) (suc i) (omega arith) f.2 (in_let rs i j x t s), f.0) (ap (λ (k : ℕ). some (declare i x t, k)) (omega arith))
    standing (assign j p t) d i h f s =
        let r = row rs i (assign j p t) s in
        by_kind d i (assign j p t) h s
        ∙ rw (r.one, r.two, lt-ltb p.root l.variables f.1.0.1, add-one i, standing t (d - 1) (suc i) (omega arith) f.2 (in_assign rs i j p t s), f.0) (ap (λ (k : ℕ). some (assign i p t, k)) (omega arith))
    standing (block j ts) d i h f s = block_stands j ts d i f.0 h s (standing_all ts (d - 1) (suc i) (omega arith) f.2 (in_block rs i j ts s))
    standing (choice m p j us k vs) d i h f s =
        let r = row rs i (choice m p j us k vs) s in
        let next = suc i + suc (sizes us) in
        let b = at_more rs (suc i) (block j us) (last (block k vs)) (in_choice rs i m p j us k vs s) in
        let c = at_last rs next (block k vs) b.1 in
        let one = block_stands j us (d - 1) (suc i) f.2.0 (omega arith) b.0 (standing_all us (d - 1 - 1) (suc (suc i)) (omega arith) f.2.2 (in_block rs (suc i) j us b.0)) in
        let two = block_stands k vs (d - 1) next f.3.0 (omega arith) c (standing_all vs (d - 1 - 1) (suc next) (omega arith) f.3.2 (in_block rs next k vs c)) in
        by_kind d i (choice m p j us k vs) h s
        ∙ rw (r.one, r.two, lt-ltb p.root l.variables f.1.0.1, add-one i, block_here (suc i) j us b.0, one, block_here next k vs c, two, f.0)
        (ap (λ (n : ℕ). some (choice i p j us k vs, n)) (omega arith))

    standing_all : (ts : Terms) (d i : ℕ) → depths ts ≤ d → FormedAll l i ts → Stands rs i (lays in_rows ts) → several_at (tree d) (others ts) i ≡ some (ts, i + sizes ts)
    standing_all (last t) d i h f s = rw (standing t d i h f (at_last rs i t s))
    standing_all (more t ts) d i h f s =
        let a = at_more rs i t ts s in
        rw (standing t d i (omega arith) f.0 a.0, standing_all ts d (i + size t) (omega arith) f.1 a.1) (ap (λ (k : ℕ). some (more t ts, k)) (omega arith))

pub tree_stands : (l : Limits) (rs : List ℕ) (t : Term) → Under 4294967296 rs → length rs ≡ row_numbers l → decode l rs ≡ ok t → tree_at l.variables l.levels rs 0 ≡ some (t, size t)
tree_stands l rs t u e h =
    let w = (decoded l rs t u e h).1 in
    standing l rs t l.levels 0 w.levels w.formed (stands l rs t u e h) ∙ ap (λ (k : ℕ). some (t, k)) (omega arith)
