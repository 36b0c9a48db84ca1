-- A set that is nowhere smaller: what was read, judged, measured or written is so as before, with the rows laid out again.
use Prim.Native.Nat.{ℕ, ◌-◌}
use mathlib.Core.Path.{◌≡◌, sym, ap, ◌∙◌}
use mathlib.Core.Bool.{true}
use mathlib.Core.List.{List, ◌++◌}
use lib.ListN.{length}
use lib.Dec.{leb, eqb}
use borrow.Author.Tests.{eqb-true, eq-eqb}
use Rattle.syntax.specs.Result.{Result, ok, need, Refusal, ◌>>=◌}
use Rattle.syntax.specs.Limits.{Limits, in_ranges, row_numbers}
use Rattle.syntax.specs.Larger.{NoSmaller}
use Rattle.syntax.specs.Script.{Term, Whole}
use Rattle.syntax.specs.Layout.{bytes_of, rows_of, zeros}
use Rattle.syntax.specs.Measures.{size}
use Rattle.syntax.specs.Within.{Under}
use Rattle.syntax.specs.Answers.{Told, read_of, rows_tree, judged_of, given_whole, length_of, writable, written_into, written_of}
use Rattle.syntax.specs.Length.{LargerLengths}
use Rattle.syntax.proofs.Answers.{then, needed}
use Rattle.syntax.proofs.RoundTrip.{decoded, decodes, rows_length}
use Rattle.syntax.proofs.MoreLimits.{within_more, allowed_more, rows_more}
use Rattle.reader.proofs.Undo.{given_says, read_says, reads_tree, gives_tree}
use Rattle.reader.proofs.WritingLength.{length_says}

module _ (l m : Limits) (n : NoSmaller l m) (r : in_ranges m ≡ true) where
  pub tree_more : (rows : List ℕ) (t : Term) → Under 4294967296 rows → rows_tree l rows ≡ ok t → (rows ≡ rows_of l t) × (rows_tree m (rows_of m t) ≡ ok t)
  unfolding rows_tree need ◌>>=◌
  tree_more rows t u h =
      let b = then (need (in_ranges l) (74, 0)) _ t h in
      let c = then (need (eqb (length rows) (row_numbers l)) (2, 0)) _ t b.2 in
      let d = decoded l rows t u (eqb-true _ _ (needed _ _ c.0 c.1)) c.2 in
      let w = within_more l m n t d.1 in
      (d.0, rw (r, eq-eqb (length (rows_of m t)) (row_numbers m) (rows_length m t w)) (decodes m t w))

  pub judge_more : (rows : List ℕ) (t : Term) → Under 4294967296 rows → rows_tree l rows ≡ ok t → judged_of m (rows_of m t) ≡ judged_of l rows
  unfolding judged_of
  judge_more rows t u h = ap (λ (x : Result Refusal Term). x >>= λ t. ok (size t)) ((tree_more rows t u h).1 ∙ sym h)

  given_more : (v : ℕ) (rows : List ℕ) (s : Whole) → Under 4294967296 rows → given_whole l v rows ≡ ok s → given_whole m v (rows_of m s.term) ≡ given_whole l v rows
  given_more v rows s u h =
      let a = given_says l v rows s u h in
      ap (λ (k : ℕ). given_whole m k (rows_of m s.term)) a.2 ∙ gives_tree m s r (allowed_more l m n s a.1) ∙ sym h

  pub write_more : (v : ℕ) (rows output : List ℕ) (s : Whole) → Under 4294967296 rows → given_whole l v rows ≡ ok s → written_of m v (rows_of m s.term) output ≡ written_of l v rows output
  unfolding written_of writable
  write_more v rows output s u h = ap (λ (x : Result Refusal Whole). written_into output (x >>= λ s. need (leb (length (bytes_of s)) (length output)) (5, 0) >>= λ _. ok s)) (given_more v rows s u h)

  pub read_more : (k : ℕ) (script rows : List ℕ) (a : Told) (rows' others : List ℕ) → Under 256 script → length others ≡ row_numbers m → read_of l k script rows ≡ (ok a, rows')
      → (t : Term) × (rows' ≡ rows_of l t) × (read_of m k script others ≡ (ok a, rows_of m t))
  read_more k script rows a rows' others u e h =
      let q = read_says l k script rows a rows' u h in
      let s = q.1 in
      (s.term, q.6, ap (λ (x : List ℕ). read_of m k x others) q.4 ∙ reads_tree m k s others r (allowed_more l m n s q.2) q.3 e ∙ ap (λ (x : Told). (ok x, rows_of m s.term)) (sym q.5))

pub length_more : LargerLengths
unfolding length_of
length_more l m n r v rows k u h =
    let a = length_says l v rows k h in
    let g = given_says l v rows a.0 u a.1 in
    let laid : rows ++ zeros (row_numbers m - row_numbers l) ≡ rows_of m a.0.term = ap (λ (x : List ℕ). x ++ zeros (row_numbers m - row_numbers l)) g.3 ∙ sym (rows_more l m n a.0.term g.1.term) in
    ap (length_of m v) laid ∙ ap (λ (x : Result Refusal Whole). x >>= λ s. ok (length (bytes_of s))) (given_more l m n r v rows a.0 u a.1) ∙ h
