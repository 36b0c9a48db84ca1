-- The numbers after a script's last row: their bits, the first that is not 0, and what the reader says of them.
use Prim.Native.Nat.{ℕ, zero, suc, ◌+◌, ◌-◌, ◌/◌, ◌≤◌, ◌<◌}
use native.Mathlib.Omega.{arith}
use native.Mathlib.Numerals.{add-one}
use mathlib.Core.Path.{◌≡◌, sym, ap, ◌∙◌}
use mathlib.Core.Bool.{Bool, true, false}
use mathlib.Core.List.{List, [], ◌∷◌}
use lib.ListN.{length, take, drop, get_or, length-drop, drop_of_length-le}
use lib.Seq.{drop-cons, drop-drop}
use lib.Dec.{ltb, eqb}
use lib.Bits.{bit_or, and_le_l, and_le_r, or_add_and}
use borrow.Author.Tests.{lt-ltb, le-ltb, eq-eqb}
use Rattle.syntax.specs.Result.{ok, err, need, pick, ◌>>=◌}
use Rattle.syntax.specs.Layout.{in_rows}
use Rattle.syntax.specs.Reader.{nothing_left}
use Rattle.syntax.specs.RowParts.{bits_of, first_used}

first_left : (rows : List ℕ) (i : ℕ) → i < length rows → drop i rows ≡ get_or rows i 0 ∷ drop (i + 1) rows
first_left rows i h = rw (add-one, drop-cons rows i 0)

-- The bits of n numbers, of which k have been looked at.
pub bits_more : (rows : List ℕ) (b from k n : ℕ) → k < n → from + n ≤ length rows
    → bits_of b (take (n - k) (drop (from + k) rows)) ≡ bits_of (bit_or b (get_or rows (from + k) 0)) (take (n - (k + 1)) (drop (from + (k + 1)) rows))
unfolding bits_of
bits_more rows b from k n h m =
    let e : n - k ≡ suc (n - (k + 1)) = omega (arith, h) in
    let s : from + (k + 1) ≡ from + k + 1 = omega arith in
    rw (e, s, first_left rows (from + k) (omega (arith, h, m)))

pub bits_none : (rows : List ℕ) (b from k n : ℕ) → n ≤ k → b ≡ bits_of b (take (n - k) (drop (from + k) rows))
unfolding bits_of
bits_none rows b from k n h = let e : n - k ≡ 0 = omega (arith, h) in rw e

-- The bits of all numbers from i on.
pub rest_bits_more : (rows : List ℕ) (b i : ℕ) → i < length rows → bits_of b (drop i rows) ≡ bits_of (bit_or b (get_or rows i 0)) (drop (i + 1) rows)
unfolding bits_of
rest_bits_more rows b i h = ap (bits_of b) (first_left rows i h)

pub rest_bits_none : (rows : List ℕ) (b i : ℕ) → length rows ≤ i → b ≡ bits_of b (drop i rows)
unfolding bits_of
rest_bits_none rows b i h = sym (ap (bits_of b) (drop_of_length-le rows h))

no_bits : (a b : ℕ) → bit_or a b ≡ 0 → (a ≡ 0) × (b ≡ 0)
no_bits a b h = omega (arith, or_add_and a b, and_le_l a b, and_le_r a b)

passed : (b k n : ℕ) (xs : List ℕ) → n ≤ length xs → bits_of b (take n xs) ≡ 0 → (b ≡ 0) × (first_used k xs ≡ first_used (k + n) (drop n xs))
unfolding bits_of first_used
passed b k zero xs m h = (h, ap (λ (i : ℕ). first_used i xs) (omega arith))
passed b k (suc n) [] m h = absurd (omega (arith, m))
passed b k (suc n) (x ∷ xs) m h =
    let q = passed (bit_or b x) (suc k) n xs (omega (arith, m)) h in
    let z = no_bits b x q.0 in
    (z.0, rw (eq-eqb x 0 z.1) (q.1 ∙ ap (λ (i : ℕ). first_used i (drop n xs)) (omega arith)))

-- Numbers without any bit are all 0.
pub bits_unused : (rows : List ℕ) (i n : ℕ) → i + n ≤ length rows → bits_of 0 (take n (drop i rows)) ≡ 0 → first_used i (drop i rows) ≡ first_used (i + n) (drop (i + n) rows)
bits_unused rows i n m z = (passed 0 i n (drop i rows) (omega (arith, length-drop i rows, m)) z).1 ∙ ap (first_used (i + n)) (drop-drop n i rows)

all_unused : (b k : ℕ) (xs : List ℕ) → bits_of b xs ≡ 0 → (b ≡ 0) × (first_used k xs ≡ k + length xs)
unfolding bits_of first_used
all_unused b k [] h = (h, omega arith)
all_unused b k (x ∷ xs) h =
    let q = all_unused (bit_or b x) (suc k) xs h in
    let z = no_bits b x q.0 in
    let e : suc k + length xs ≡ k + suc (length xs) = omega arith in
    (z.0, rw (eq-eqb x 0 z.1) (q.1 ∙ e))

pub rest_unused : (rows : List ℕ) (i : ℕ) → i ≤ length rows → bits_of 0 (drop i rows) ≡ 0 → length rows ≡ first_used i (drop i rows)
rest_unused rows i h z = omega (arith, (all_unused 0 i (drop i rows) z).1, length-drop i rows)

-- 19 (LANGUAGE 5.13) is at the row of the first number that is not 0.
pub left_judged : (k : ℕ) (xs : List ℕ) → nothing_left in_rows k xs ≡ pick (ltb (first_used k xs) (k + length xs)) (err (19, first_used k xs / 5)) (ok tt)
unfolding nothing_left first_used need ◌>>=◌
left_judged k [] = rw (le-ltb k (k + 0) (omega arith))
left_judged k (x ∷ xs) = go (left_judged (suc k) xs) (eqb x 0)
  where
    used : ℕ
    used = first_used (suc k) xs

    go : nothing_left in_rows (suc k) xs ≡ pick (ltb used (suc k + length xs)) (err (19, used / 5)) (ok tt) → (t : Bool)
        → ◌>>=◌ (need t (19, k / 5)) (λ u. nothing_left in_rows (suc k) xs) ≡ pick (ltb (pick t used k) (k + suc (length xs))) (err (19, pick t used k / 5)) (ok tt)
    go ih true = let e : suc k + length xs ≡ k + suc (length xs) = omega arith in ih ∙ ap (λ (n : ℕ). pick (ltb used n) (err (19, used / 5)) (ok tt)) e
    go ih false = rw (lt-ltb k (k + suc (length xs)) (omega arith))
