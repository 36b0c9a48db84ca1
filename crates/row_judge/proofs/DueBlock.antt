-- A term of rows that must be a block: the code asks that first, of its row, and then judges the term as any other, as a block of one.
use Prim.Native.Nat.{ℕ, zero, suc, ◌+◌, ◌-◌, ◌*◌, ◌≤◌, ◌<◌}
use native.Mathlib.Omega.{arith}
use mathlib.Core.Path.{◌≡◌, refl, sym, ap, ◌∙◌, subst}
use mathlib.Core.Bool.{Bool, true, false, false≢true, not, ◌&&◌}
use mathlib.Core.List.{List}
use lib.ListN.{length, take}
use lib.Dec.{leb, eqb}
use borrow.Author.Tests.{lt-leb, ne_eqb}
use Rattle.syntax.specs.Result.{err, pick}
use Rattle.syntax.specs.Limits.{Limits, row_numbers}
use Rattle.syntax.specs.Kinds.{Kind, fields}
use Rattle.syntax.specs.Layout.{in_rows}
use Rattle.syntax.specs.Reader.{boxes_of, built, term}
use Rattle.syntax.specs.Parts.{known_in}
use Rattle.syntax.specs.RowParts.{field_at, fields_at, no_block, row_number, row_cursor, term_rows, block_rows, span_of}
use Rattle.syntax.proofs.Lists.{within_list}
use Rattle.syntax.proofs.HeadSound.{both}
use Rattle.syntax.proofs.KnownKinds.{known_is}
use Rattle.syntax.proofs.RowTerms.{Judges, row_judged}
use Rattle.row_judge.proofs.RowSpans.{one_span}

-- The tests of a kind that is none, or a block's, are the same whether a block is asked for or not.
same_number : (v b x : ℕ) → (known_in v b && not (eqb b 11)) ≡ false → pick (eqb b 0) 12 (pick (not (known_in v b)) 13 (pick (not (eqb b 11)) 18 x)) ≡ pick (eqb b 0) 12 (pick (not (known_in v b)) 13 x)
same_number v b x h = go (eqb b 0) (known_in v b) (eqb b 11) refl refl
  where
    go : (t u w : Bool) → known_in v b ≡ u → eqb b 11 ≡ w → pick t 12 (pick (not u) 13 (pick (not w) 18 x)) ≡ pick t 12 (pick (not u) 13 x)
    go true u w p q = refl
    go false false w p q = refl
    go false true true p q = refl
    go false true false p q =
        let z : (known_in v b && not (eqb b 11)) ≡ true = rw (p, q) in
        absurd (false≢true (sym h ∙ z))

module _ (l : Limits) (v levels : ℕ) (rows : List ℕ) (i boxes : ℕ) (full : length rows ≡ row_numbers l) (few : boxes ≤ l.boxes) where
  abbrev Row : Bool → ℕ → Type 0
  Row outer n = Judges l v levels outer rows i boxes n

  judged : (outer : Bool) → Row outer (row_number l v levels outer rows i boxes)
  judged outer = row_judged l v levels outer rows i boxes full few

  pub due_refused : no_block v rows i ≡ true → err (18, i) ≡ span_of (term_rows l v levels true rows i boxes)
  unfolding no_block row_number row_numbers span_of
  due_refused h =
      let b = field_at rows i 0 in
      let o = both (known_in v b) (not (eqb b 11)) h in
      let low = (known_is b v o.0).0.0 in
      let room : i < l.terms = omega (arith, within_list rows (5 * i + 0) low) in
      let n : row_number l v levels true rows i boxes ≡ 18 = rw (lt-leb l.terms i room, ne_eqb b 0 (λ z. omega arith), o.0, o.1) in
      sym (ap span_of ((subst (Row true) n (judged true)).refuses (λ z. omega arith)))

  alike : (n : ℕ) → Row true n → Row false n → term_rows l v levels true rows i boxes ≡ term_rows l v levels false rows i boxes
  alike zero a b =
      let e = a.enters refl in
      let f = b.enters refl in
      let k : e.kind ≡ f.kind = cc (e.is, f.is) in
      e.builds ∙ ap (λ (k : Kind). built k i (take (length (fields l k)) (fields_at rows i)) (term l v in_rows (levels - 1)) (row_cursor rows (i + 1) (boxes + boxes_of k))) k ∙ sym f.builds
  alike (suc n) a b = a.refuses (λ z. omega arith) ∙ sym (b.refuses (λ z. omega arith))

  pub due_same : no_block v rows i ≡ false → span_of (block_rows l v levels 1 rows i boxes) ≡ span_of (term_rows l v levels true rows i boxes)
  unfolding no_block row_number
  due_same h =
      let n : row_number l v levels true rows i boxes ≡ row_number l v levels false rows i boxes = ap (λ (x : ℕ). pick (leb l.terms i) 12 x) (same_number v (field_at rows i 0) _ h) in
      one_span l v levels false rows i boxes ∙ ap span_of (sym (alike _ (subst (Row true) n (judged true)) (judged false)))
