-- A tree in its rows: what stands in the row of a term, and from which rows its inner terms stand.
use Prim.Native.Nat.{ℕ, suc, ◌+◌, ◌-◌, ◌*◌}
use native.Mathlib.Omega.{arith}
use mathlib.Core.Path.{◌≡◌, refl, sym, ap, ◌∙◌}
use mathlib.Core.Option.{Option, some}
use mathlib.Core.List.{List, ◌∷◌, ◌++◌, append_assoc}
use lib.ListN.{length, get_or, drop}
use lib.Seq.{get_or-drop, drop-drop, drop_at}
use Rattle.syntax.specs.Result.{ok}
use Rattle.syntax.specs.Limits.{Limits, row_numbers}
use Rattle.syntax.specs.Script.{Place, Term, Terms, number, reading, copy, move, borrow_shared, borrow_exclusive, box, declare, assign, below, block, choice, sum, last, more}
use Rattle.syntax.specs.Kinds.{byte_of}
use Rattle.syntax.specs.Layout.{in_rows, zeros, word_of, unused, head, lay, lays, rows_of}
use Rattle.syntax.specs.Reader.{decode}
use Rattle.syntax.specs.Measures.{size, kind_in}
use Rattle.syntax.specs.Within.{Under}
use Rattle.syntax.proofs.Parts.{inside, lay_inside}
use Rattle.syntax.proofs.RoundTrip.{decoded, laid_rows}
unfoldable pub use Rattle.syntax.proofs.Parts.{values}

-- From row i on stands xs.
pub record Stands (rs : List ℕ) (i : ℕ) (xs : List ℕ) : Type 0 where
  pub after : List ℕ
  pub is : drop (5 * i) rs ≡ xs ++ after

pub record Row (rs : List ℕ) (i k : ℕ) (vs : List ℕ) : Type 0 where
  pub kind : get_or rs (5 * i) 0 ≡ k
  pub one : get_or rs (5 * i + 1) 0 ≡ get_or vs 0 0
  pub two : get_or rs (5 * i + 2) 0 ≡ get_or vs 1 0
  pub three : get_or rs (5 * i + 3) 0 ≡ get_or vs 2 0
  pub four : get_or rs (5 * i + 4) 0 ≡ get_or vs 3 0

-- A term's row, and then what is inside.
row_inside : (t : Term) → lay in_rows t ≡ byte_of (kind_in t) ∷ get_or (values t) 0 0 ∷ get_or (values t) 1 0 ∷ get_or (values t) 2 0 ∷ get_or (values t) 3 0 ∷ lay_inside in_rows (inside t)
unfolding lay lays head word_of unused zeros kind_in values inside lay_inside
row_inside (number i n) = refl
row_inside (reading i n) = refl
row_inside (copy i p) = refl
row_inside (move i p) = refl
row_inside (borrow_shared i p) = refl
row_inside (borrow_exclusive i p) = refl
row_inside (box i t) = refl
row_inside (declare i x t) = refl
row_inside (assign i p t) = refl
row_inside (below i p q) = refl
row_inside (block i ts) = refl
row_inside (choice i p j us k vs) = refl
row_inside (sum i p q) = refl

module _ (rs : List ℕ) (i : ℕ) where
  at : (j : ℕ) (xs : List ℕ) → drop (5 * i) rs ≡ xs → get_or rs (5 * i + j) 0 ≡ get_or xs j 0
  at j xs e = sym (get_or-drop (5 * i) rs j 0) ∙ ap (λ (x : List ℕ). get_or x j 0) e

  pub row : (t : Term) → Stands rs i (lay in_rows t) → Row rs i (byte_of (kind_in t)) (values t)
  row t s =
      let h = s.is ∙ ap (λ (x : List ℕ). x ++ s.after) (row_inside t) in
      let z : 5 * i ≡ 5 * i + 0 = omega arith in
      record { kind = ap (λ (n : ℕ). get_or rs n 0) z ∙ at 0 _ h; one = at 1 _ h; two = at 2 _ h; three = at 3 _ h; four = at 4 _ h }

  -- The inner terms begin at the next row.
  inner : (t : Term) (ts : Terms) → inside t ≡ some ts → Stands rs i (lay in_rows t) → Stands rs (suc i) (lays in_rows ts)
  unfolding lay_inside
  inner t ts e s =
      let z : 5 * suc i ≡ 5 * i + 5 = omega arith in
      record {
        after = s.after;
        is = ap (λ (n : ℕ). drop n rs) z ∙ sym (drop-drop 5 (5 * i) rs) ∙ ap (λ (x : List ℕ). drop 5 x) (s.is ∙ ap (λ (x : List ℕ). x ++ s.after) (row_inside t))
            ∙ ap (λ (o : Option Terms). lay_inside in_rows o ++ s.after) e;
      }

  pub in_box : (j : ℕ) (t : Term) → Stands rs i (lay in_rows (box j t)) → Stands rs (suc i) (lay in_rows t)
  unfolding lays inside
  in_box j t s = inner (box j t) (last t) refl s

  pub in_let : (j x : ℕ) (t : Term) → Stands rs i (lay in_rows (declare j x t)) → Stands rs (suc i) (lay in_rows t)
  unfolding lays inside
  in_let j x t s = inner (declare j x t) (last t) refl s

  pub in_assign : (j : ℕ) (p : Place) (t : Term) → Stands rs i (lay in_rows (assign j p t)) → Stands rs (suc i) (lay in_rows t)
  unfolding lays inside
  in_assign j p t s = inner (assign j p t) (last t) refl s

  pub in_block : (j : ℕ) (ts : Terms) → Stands rs i (lay in_rows (block j ts)) → Stands rs (suc i) (lays in_rows ts)
  unfolding inside
  in_block j ts s = inner (block j ts) ts refl s

  pub in_choice : (m : ℕ) (p : Place) (j : ℕ) (us : Terms) (k : ℕ) (vs : Terms) → Stands rs i (lay in_rows (choice m p j us k vs)) → Stands rs (suc i) (lays in_rows (more (block j us) (last (block k vs))))
  unfolding inside
  in_choice m p j us k vs s = inner (choice m p j us k vs) (more (block j us) (last (block k vs))) refl s

  -- The terms of a block follow one another, each with as many rows as it has terms.
  pub at_last : (t : Term) → Stands rs i (lays in_rows (last t)) → Stands rs i (lay in_rows t)
  unfolding lays
  at_last t s = s

  pub at_more : (t : Term) (ts : Terms) → Stands rs i (lays in_rows (more t ts)) → Stands rs i (lay in_rows t) × Stands rs (i + size t) (lays in_rows ts)
  unfolding lays
  at_more t ts s =
      let h : drop (5 * i) rs ≡ lay in_rows t ++ (lays in_rows ts ++ s.after) = s.is ∙ append_assoc (lay in_rows t) (lays in_rows ts) s.after in
      let z : 5 * (i + size t) ≡ 5 * i + 5 * size t = omega arith in (
        record { after = lays in_rows ts ++ s.after; is = h },
        record {
          after = s.after;
          is = ap (λ (n : ℕ). drop n rs) z ∙ sym (drop-drop (5 * size t) (5 * i) rs) ∙ ap (λ (x : List ℕ). drop (5 * size t) x) h ∙ drop_at (lay in_rows t) (lays in_rows ts ++ s.after) (5 * size t) (laid_rows t);
        },
      )

-- Rows that are decoded hold the tree from their first row on.
pub stands : (l : Limits) (rs : List ℕ) (t : Term) → Under 4294967296 rs → length rs ≡ row_numbers l → decode l rs ≡ ok t → Stands rs 0 (lay in_rows t)
unfolding rows_of
stands l rs t u e h = record { after = zeros (row_numbers l - length (lay in_rows t)); is = (decoded l rs t u e h).0 }
