-- How long what is written is: the bytes weigh what `weight` says, and the rows are five numbers to a term.
use Prim.Native.Nat.{ℕ, ◌+◌, ◌-◌, ◌*◌, ◌≤◌}
use native.Mathlib.Omega.{arith}
use mathlib.Core.Path.{◌≡◌, ◌∙◌}
use mathlib.Core.Bool.{true}
use lib.ListN.{length, length-append, length-replicate}
use Rattle.syntax.specs.Limits.{Limits, in_ranges, max_bytes, row_numbers}
use Rattle.syntax.specs.Script.{Term, Terms, Whole, number, reading, copy, move, borrow_shared, borrow_exclusive, box, declare, assign, below, block, choice, sum, last, more}
use Rattle.syntax.specs.Layout.{in_bytes, in_rows, zeros, word_of, unused, head, lay, lays, bytes_of, rows_of}
use Rattle.syntax.specs.Measures.{size, sizes, weight, weights, byte_length}
use Rattle.syntax.specs.Within.{Within}
use Rattle.syntax.proofs.Ranges.{ranged}

-- Of the numbers of bytes, of row numbers, the weight and the terms.
record Measured (b r g n : ℕ) : Type 0 where
  pub bytes : b ≡ g
  pub rows : r ≡ 5 * n
  pub light : g ≤ 5 * n

mutual
  unfolding lay head word_of unused zeros weight size

  measured : (t : Term) → Measured (length (lay in_bytes t)) (length (lay in_rows t)) (weight t) (size t)
  measured (number i n) = omega arith
  measured (reading i n) = omega arith
  measured (copy i p) = omega arith
  measured (move i p) = omega arith
  measured (borrow_shared i p) = omega arith
  measured (borrow_exclusive i p) = omega arith
  measured (box i t) = omega (arith, measured t)
  measured (declare i x t) = omega (arith, measured t)
  measured (assign i p t) = omega (arith, measured t)
  measured (below i p q) = omega arith
  measured (block i ts) = omega (arith, all_measured ts)
  measured (choice i p j us k vs) = omega (arith, length-append (lay in_bytes (block j us)) (lay in_bytes (block k vs)), length-append (lay in_rows (block j us)) (lay in_rows (block k vs)), all_measured us, all_measured vs)
  measured (sum i p q) = omega arith

  all_measured : (ts : Terms) → Measured (length (lays in_bytes ts)) (length (lays in_rows ts)) (weights ts) (sizes ts)
  all_measured (last t) = measured t
  all_measured (more t ts) = omega (arith, length-append (lay in_bytes t) (lays in_bytes ts), length-append (lay in_rows t) (lays in_rows ts), measured t, all_measured ts)

pub laid_bytes : (t : Term) → length (lay in_bytes t) ≡ weight t
laid_bytes t = (measured t).bytes

pub laid_rows : (t : Term) → length (lay in_rows t) ≡ 5 * size t
laid_rows t = (measured t).rows

pub all_laid_bytes : (ts : Terms) → length (lays in_bytes ts) ≡ weights ts
all_laid_bytes ts = (all_measured ts).bytes

pub all_laid_rows : (ts : Terms) → length (lays in_rows ts) ≡ 5 * sizes ts
all_laid_rows ts = (all_measured ts).rows

pub byte_length_law : (s : Whole) → length (bytes_of s) ≡ byte_length s
unfolding bytes_of byte_length
byte_length_law s = omega (arith, laid_bytes s.term)

pub byte_bound : (l : Limits) (s : Whole) → Within l s.term → byte_length s ≤ 5 + 5 * l.terms
unfolding byte_length
byte_bound l s i = omega (arith, (measured s.term).light, i.terms)

-- A script within a set in its ranges never has too many bytes.
pub byte_most : (l : Limits) (s : Whole) → in_ranges l ≡ true → Within l s.term → byte_length s ≤ max_bytes
unfolding max_bytes
byte_most l s r i = omega (arith, byte_bound l s i, (ranged l r).terms)

pub rows_length : (l : Limits) (t : Term) → Within l t → length (rows_of l t) ≡ row_numbers l
unfolding rows_of row_numbers zeros
rows_length l t i =
    let n = 5 * l.terms - length (lay in_rows t) in
    length-append (lay in_rows t) (zeros n) ∙ omega (arith, length-replicate {A = ℕ} n 0, laid_rows t, i.terms)
