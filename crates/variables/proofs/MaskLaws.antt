-- Bits of words, and sets of numbers below 128 that are two words: their members, when they are empty, how many they have. Assumes nothing.
use Prim.Native.Nat.{ℕ, zero, suc, ◌+◌, ◌-◌, ◌*◌, ◌/◌, ◌%◌, ◌^◌, ◌≤◌, ◌<◌, suc-le-suc}
use native.Mathlib.Nat.{mod-lt, mod-eq_of_lt, div-eq_of_lt, div-one, one-mul, mul-div_cancel, mul-mod_left, pow-suc, zero-lt-suc}
use native.Mathlib.Numerals.{one-add}
use native.Mathlib.Omega.{arith}
use mathlib.Core.Path.{◌≡◌, refl, sym, ap, ap₂, ◌∙◌}
use mathlib.Core.Logic.{◌≢◌}
use mathlib.Core.Bool.{Bool, true, false, false≢true, true≢false, ◌&&◌}
use lib.Dec.{ltb, eqb, eqb-zero-suc, eqb-suc-zero, eqb-suc-suc}
use lib.Pow.{pow_pos, pow-lt, shr-shr}
use lib.Bits.{bit_and, bit_or, bit_xor, and_shr, and_mod, or_shr, or_mod, xor_shr, xor_mod}
use lib.Count.{under, count_trailing_zeros, trailing_le}
use borrow.Author.Tests.{ltb-true, ltb-false, lt-ltb, le-ltb, eqb-true, eq-eqb, ne_eqb}
use Rattle.syntax.specs.Result.{pick}
use Rattle.variables.specs.Masks.{bit, has, is_empty}
use Rattle.variables.specs.declared.roots.Roots.{Roots}
use Rattle.statics.proofs.ClosureLoop.{count, count_less}

-- ---- one bit of a word

two_pos : zero < 2
two_pos = zero-lt-suc 1

first_bit : (w : ℕ) → bit w 0 ≡ eqb (w % 2) 1
unfolding bit
first_bit w = ap (λ (d : ℕ). eqb (d % 2) 1) (div-one w)

next_bit : (w k : ℕ) → bit w (suc k) ≡ bit (w / 2) k
unfolding bit
next_bit w k = ap (λ (d : ℕ). eqb (d % 2) 1) (ap (λ (e : ℕ). w / 2 ^ e) (sym (one-add k)) ∙ sym (shr-shr w 1 k))

bit_zero : (k : ℕ) → bit 0 k ≡ false
unfolding bit
bit_zero k = ap (λ (d : ℕ). eqb (d % 2) 1) (div-eq_of_lt (pow_pos k))

or_digit : (d e : ℕ) → d < 2 → e < 2 → eqb (bit_or d e) 1 ≡ pick (eqb d 1) true (eqb e 1)
or_digit zero e h l = refl
or_digit (suc zero) zero h l = refl
or_digit (suc zero) (suc zero) h l = refl
or_digit (suc zero) (suc (suc e)) h l = absurd (omega arith)
or_digit (suc (suc d)) e h l = absurd (omega arith)

and_digit : (d e : ℕ) → d < 2 → e < 2 → eqb (bit_and d e) 1 ≡ pick (eqb d 1) (eqb e 1) false
and_digit zero e h l = refl
and_digit (suc zero) zero h l = refl
and_digit (suc zero) (suc zero) h l = refl
and_digit (suc zero) (suc (suc e)) h l = absurd (omega arith)
and_digit (suc (suc d)) e h l = absurd (omega arith)

less_digit : (d e : ℕ) → d < 2 → e < 2 → eqb (bit_xor (bit_or d e) e) 1 ≡ pick (eqb e 1) false (eqb d 1)
less_digit zero zero h l = refl
less_digit zero (suc zero) h l = refl
less_digit zero (suc (suc e)) h l = absurd (omega arith)
less_digit (suc zero) zero h l = refl
less_digit (suc zero) (suc zero) h l = refl
less_digit (suc zero) (suc (suc e)) h l = absurd (omega arith)
less_digit (suc (suc d)) e h l = absurd (omega arith)

bit_or_law : (a b k : ℕ) → bit (bit_or a b) k ≡ pick (bit a k) true (bit b k)
unfolding bit
bit_or_law a b k =
    ap (λ (d : ℕ). eqb (d % 2) 1) (or_shr a b k)
    ∙ ap (λ (d : ℕ). eqb d 1) (or_mod (a / 2 ^ k) (b / 2 ^ k) 1)
    ∙ or_digit (a / 2 ^ k % 2) (b / 2 ^ k % 2) (mod-lt (a / 2 ^ k) two_pos) (mod-lt (b / 2 ^ k) two_pos)

bit_and_law : (a b k : ℕ) → bit (bit_and a b) k ≡ pick (bit a k) (bit b k) false
unfolding bit
bit_and_law a b k =
    ap (λ (d : ℕ). eqb (d % 2) 1) (and_shr a b k)
    ∙ ap (λ (d : ℕ). eqb d 1) (and_mod (a / 2 ^ k) (b / 2 ^ k) 1)
    ∙ and_digit (a / 2 ^ k % 2) (b / 2 ^ k % 2) (mod-lt (a / 2 ^ k) two_pos) (mod-lt (b / 2 ^ k) two_pos)

bit_less : (a b k : ℕ) → bit (bit_xor (bit_or a b) b) k ≡ pick (bit b k) false (bit a k)
unfolding bit
bit_less a b k =
    ap (λ (d : ℕ). eqb (d % 2) 1) (xor_shr (bit_or a b) b k ∙ ap (λ (d : ℕ). bit_xor d (b / 2 ^ k)) (or_shr a b k))
    ∙ ap (λ (d : ℕ). eqb d 1) (xor_mod (bit_or (a / 2 ^ k) (b / 2 ^ k)) (b / 2 ^ k) 1 ∙ ap (λ (d : ℕ). bit_xor d (b / 2 ^ k % 2)) (or_mod (a / 2 ^ k) (b / 2 ^ k) 1))
    ∙ less_digit (a / 2 ^ k % 2) (b / 2 ^ k % 2) (mod-lt (a / 2 ^ k) two_pos) (mod-lt (b / 2 ^ k) two_pos)

bit_power : (j k : ℕ) → bit (2 ^ j) k ≡ eqb j k
bit_power zero zero = first_bit 1
bit_power zero (suc k) = next_bit 1 k ∙ bit_zero k ∙ sym (eqb-zero-suc k)
bit_power (suc j) zero = first_bit (2 ^ suc j) ∙ ap (λ (d : ℕ). eqb d 1) (ap (λ (d : ℕ). d % 2) (pow-suc 2 j) ∙ mul-mod_left (2 ^ j) 2) ∙ sym (eqb-suc-zero j)
bit_power (suc j) (suc k) =
    next_bit (2 ^ suc j) k ∙ ap (λ (w : ℕ). bit w k) (ap (λ (d : ℕ). d / 2) (pow-suc 2 j) ∙ mul-div_cancel (2 ^ j) two_pos) ∙ bit_power j k ∙ sym (eqb-suc-suc j k)

-- The lowest bit of a word that has one.
bit_trailing : (n w : ℕ) → 0 < w → w < 2 ^ n → (bit w (count_trailing_zeros n w) ≡ true) × (count_trailing_zeros n w < n)
unfolding count_trailing_zeros
bit_trailing zero w p l = absurd (omega arith)
bit_trailing (suc n) w p l = go (w % 2) refl (λ q. bit_trailing n (w / 2) q (omega arith))
  where
    go : (d : ℕ) → w % 2 ≡ d → (0 < w / 2 → (bit (w / 2) (count_trailing_zeros n (w / 2)) ≡ true) × (count_trailing_zeros n (w / 2) < n))
        → (bit w (under d (count_trailing_zeros n (w / 2))) ≡ true) × (under d (count_trailing_zeros n (w / 2)) < suc n)
    go zero e ih = let I = ih (omega arith) in (next_bit w (count_trailing_zeros n (w / 2)) ∙ I.0, suc-le-suc I.1)
    go (suc zero) e ih = (first_bit w ∙ ap (λ (d : ℕ). eqb d 1) e, zero-lt-suc n)
    go (suc (suc d)) e ih = absurd (omega (arith, mod-lt w two_pos))

-- It has none below.
trailing_least : (n w k : ℕ) → k < count_trailing_zeros n w → bit w k ≡ false
unfolding count_trailing_zeros
trailing_least zero w k l = absurd (omega arith)
trailing_least (suc n) w k l = go (w % 2) refl k l (trailing_least n (w / 2))
  where
    go : (d : ℕ) → w % 2 ≡ d → (j : ℕ) → j < under d (count_trailing_zeros n (w / 2)) → ((i : ℕ) → i < count_trailing_zeros n (w / 2) → bit (w / 2) i ≡ false) → bit w j ≡ false
    go zero e zero h ih = first_bit w ∙ ap (λ (d : ℕ). eqb d 1) e
    go zero e (suc j) h ih = next_bit w j ∙ ih j (omega arith)
    go (suc d) e j h ih = absurd (omega arith)

nothing : (b : Bool) → pick b false false ≡ false
nothing true = refl
nothing false = refl

twice : (b : Bool) → pick b b false ≡ b
twice true = refl
twice false = refl

-- A word and one less have all its bits in common, but the lowest.
lowest_out : (n w k : ℕ) → 0 < w → w < 2 ^ n → pick (bit w k) (bit (w - 1) k) false ≡ pick (eqb (count_trailing_zeros n w) k) false (bit w k)
unfolding count_trailing_zeros
lowest_out zero w k p l = absurd (omega arith)
lowest_out (suc n) w k p l = go (w % 2) refl k (λ j q. lowest_out n (w / 2) j q (omega arith))
  where
    go : (d : ℕ) → w % 2 ≡ d → (j : ℕ)
        → ((i : ℕ) → 0 < w / 2 → pick (bit (w / 2) i) (bit (w / 2 - 1) i) false ≡ pick (eqb (count_trailing_zeros n (w / 2)) i) false (bit (w / 2) i))
        → pick (bit w j) (bit (w - 1) j) false ≡ pick (eqb (under d (count_trailing_zeros n (w / 2))) j) false (bit w j)
    go zero e zero ih =
        let none : bit w 0 ≡ false = first_bit w ∙ ap (λ (d : ℕ). eqb d 1) e in
        rw (none, eqb-suc-zero (count_trailing_zeros n (w / 2))) refl
    go zero e (suc i) ih =
        let less : (w - 1) / 2 ≡ w / 2 - 1 = omega arith in
        rw (next_bit w i, next_bit (w - 1) i, less, eqb-suc-suc (count_trailing_zeros n (w / 2)) i) (ih i (omega arith))
    go (suc zero) e zero ih =
        let even : (w - 1) % 2 ≡ 0 = omega arith in
        let none : bit (w - 1) 0 ≡ false = first_bit (w - 1) ∙ ap (λ (d : ℕ). eqb d 1) even in
        rw none (nothing (bit w 0))
    go (suc zero) e (suc i) ih =
        let half : (w - 1) / 2 ≡ w / 2 = omega arith in
        rw (next_bit w i, next_bit (w - 1) i, half, eqb-zero-suc i) (twice (bit (w / 2) i))
    go (suc (suc d)) e j ih = absurd (omega (arith, mod-lt w two_pos))

no_bits : (n w : ℕ) → w < 2 ^ n → ((k : ℕ) → k < n → bit w k ≡ false) → w ≡ 0
no_bits n zero l h = refl
no_bits n (suc w) l h = let B = bit_trailing n (suc w) (zero-lt-suc w) l in absurd (true≢false (sym B.0 ∙ h _ B.1))

-- ---- members

pub in_low : (s : Roots) (x : ℕ) → x < 64 → has s x ≡ bit s.low x
unfolding has
in_low s x h = rw (lt-ltb x 64 h) refl

pub in_high : (s : Roots) (x : ℕ) → 64 ≤ x → x < 128 → has s x ≡ bit s.high (x - 64)
unfolding has
in_high s x g h = rw (le-ltb x 64 g, lt-ltb x 128 h) refl

pub in_neither : (s : Roots) (x : ℕ) → 128 ≤ x → has s x ≡ false
unfolding has
in_neither s x h = rw (le-ltb x 64 (omega arith), le-ltb x 128 h) refl

in_high_at : (s : Roots) (k : ℕ) → k < 64 → has s (64 + k) ≡ bit s.high k
in_high_at s k h = in_high s (64 + k) (omega arith) (omega arith) ∙ ap (bit s.high) (let z : 64 + k - 64 ≡ k = omega arith in z)

pub has_below : (s : Roots) (x : ℕ) → has s x ≡ true → x < 128
has_below s x h = go (ltb x 128) refl
  where
    go : (b : Bool) → ltb x 128 ≡ b → x < 128
    go true e = ltb-true x 128 e
    go false e = absurd (false≢true (sym (in_neither s x (ltb-false x 128 e)) ∙ h))

-- ---- nothing in it

pub in_none : (x : ℕ) → has (record { low = 0; high = 0 }) x ≡ false
unfolding has
in_none x = go (ltb x 64) (ltb x 128)
  where
    go : (a b : Bool) → pick a (bit 0 x) (pick b (bit 0 (x - 64)) false) ≡ false
    go true b = bit_zero x
    go false true = bit_zero (x - 64)
    go false false = refl

pub none_in : (s : Roots) → is_empty s ≡ true → (x : ℕ) → has s x ≡ false
unfolding is_empty
none_in s h x = go (eqb s.low 0) (eqb s.high 0) refl refl h
  where
    go : (a b : Bool) → eqb s.low 0 ≡ a → eqb s.high 0 ≡ b → (a && b) ≡ true → has s x ≡ false
    go true true e f k = ap₂ (λ (l g : ℕ). has (record { low = l; high = g }) x) (eqb-true s.low 0 e) (eqb-true s.high 0 f) ∙ in_none x
    go true false e f k = absurd (false≢true k)
    go false b e f k = absurd (false≢true k)

pub some_in : (s : Roots) → s.low < 2 ^ 64 → s.high < 2 ^ 64 → ((x : ℕ) → has s x ≡ false) → is_empty s ≡ true
unfolding is_empty
some_in s l g h =
    rw (
      eq-eqb s.low 0 (no_bits 64 s.low l (λ k b. sym (in_low s k b) ∙ h k)),
      eq-eqb s.high 0 (no_bits 64 s.high g (λ k b. sym (in_high_at s k b) ∙ h (64 + k))),
    ) refl

-- The lowest number of a word that is not 0 is in the set.
pub low_found : (s : Roots) → s.low < 2 ^ 64 → s.low ≢ 0 → (has s (count_trailing_zeros 64 s.low) ≡ true) × (count_trailing_zeros 64 s.low < 64)
low_found s l n =
    let B = bit_trailing 64 s.low (omega arith) l in
    (in_low s (count_trailing_zeros 64 s.low) B.1 ∙ B.0, B.1)

pub high_found : (s : Roots) → s.high < 2 ^ 64 → s.low ≡ 0 → is_empty s ≡ false → (has s (64 + count_trailing_zeros 64 s.high) ≡ true) × (count_trailing_zeros 64 s.high < 64)
unfolding is_empty
high_found s l z e =
    let B = bit_trailing 64 s.high (go s.high (sym (ap (λ (b : Bool). b && eqb s.high 0) (eq-eqb s.low 0 z)) ∙ e)) l in
    (in_high_at s (count_trailing_zeros 64 s.high) B.1 ∙ B.0, B.1)
  where
    go : (w : ℕ) → eqb w 0 ≡ false → 0 < w
    go zero h = absurd (true≢false h)
    go (suc w) h = zero-lt-suc w

-- No number of the set is less.
pub low_least : (s : Roots) (x : ℕ) → has s x ≡ true → count_trailing_zeros 64 s.low ≤ x
low_least s x h = go (ltb x (count_trailing_zeros 64 s.low)) refl
  where
    go : (b : Bool) → ltb x (count_trailing_zeros 64 s.low) ≡ b → count_trailing_zeros 64 s.low ≤ x
    go false e = ltb-false x (count_trailing_zeros 64 s.low) e
    go true e =
        let l = ltb-true x (count_trailing_zeros 64 s.low) e in
        absurd (false≢true (sym (in_low s x (omega (arith, trailing_le 64 s.low)) ∙ trailing_least 64 s.low x l) ∙ h))

pub high_least : (s : Roots) (x : ℕ) → s.low ≡ 0 → has s x ≡ true → 64 + count_trailing_zeros 64 s.high ≤ x
high_least s x z h = go (ltb x 64) refl (ltb (x - 64) (count_trailing_zeros 64 s.high)) refl
  where
    go : (a : Bool) → ltb x 64 ≡ a → (b : Bool) → ltb (x - 64) (count_trailing_zeros 64 s.high) ≡ b → 64 + count_trailing_zeros 64 s.high ≤ x
    go true e b f = absurd (false≢true (sym (in_low s x (ltb-true x 64 e) ∙ ap (λ (w : ℕ). bit w x) z ∙ bit_zero x) ∙ h))
    go false e false f = let g = ltb-false x 64 e in omega (arith, ltb-false (x - 64) (count_trailing_zeros 64 s.high) f)
    go false e true f =
        let g = ltb-false x 64 e in
        let l = ltb-true (x - 64) (count_trailing_zeros 64 s.high) f in
        absurd (false≢true (sym (in_high s x g (omega (arith, trailing_le 64 s.high)) ∙ trailing_least 64 s.high (x - 64) l) ∙ h))

-- Without its lowest number a set has the others.
pub low_out : (s : Roots) → s.low < 2 ^ 64 → s.low ≢ 0 → (y : ℕ)
    → has (record { low = bit_and s.low (s.low - 1); high = s.high }) y ≡ pick (eqb (count_trailing_zeros 64 s.low) y) false (has s y)
unfolding has
low_out s l n y = go (ltb y 64) (ltb y 128) refl
  where
    go : (a b : Bool) → ltb y 64 ≡ a → pick a (bit (bit_and s.low (s.low - 1)) y) (pick b (bit s.high (y - 64)) false)
        ≡ pick (eqb (count_trailing_zeros 64 s.low) y) false (pick a (bit s.low y) (pick b (bit s.high (y - 64)) false))
    go true b e = bit_and_law s.low (s.low - 1) y ∙ lowest_out 64 s.low y (omega arith) l
    go false b e =
        let g = ltb-false y 64 e in
        let B = bit_trailing 64 s.low (omega arith) l in
        sym (ap (λ (q : Bool). pick q false (pick b (bit s.high (y - 64)) false)) (ne_eqb (count_trailing_zeros 64 s.low) y (λ q. omega (arith, B.1))))

pub high_out : (s : Roots) → s.high < 2 ^ 64 → s.low ≡ 0 → s.high ≢ 0 → (y : ℕ)
    → has (record { low = s.low; high = bit_and s.high (s.high - 1) }) y ≡ pick (eqb (64 + count_trailing_zeros 64 s.high) y) false (has s y)
unfolding has
high_out s l z n y = go (ltb y 64) (ltb y 128) refl refl
  where
    moved : 64 ≤ y → (q : Bool) → eqb (count_trailing_zeros 64 s.high) (y - 64) ≡ q → q ≡ eqb (64 + count_trailing_zeros 64 s.high) y
    moved g true e = let k = eqb-true (count_trailing_zeros 64 s.high) (y - 64) e in sym (eq-eqb (64 + count_trailing_zeros 64 s.high) y (omega arith))
    moved g false e = sym (ne_eqb (64 + count_trailing_zeros 64 s.high) y (λ q. true≢false (sym (eq-eqb (count_trailing_zeros 64 s.high) (y - 64) (omega arith)) ∙ e)))

    go : (a b : Bool) → ltb y 64 ≡ a → ltb y 128 ≡ b → pick a (bit s.low y) (pick b (bit (bit_and s.high (s.high - 1)) (y - 64)) false)
        ≡ pick (eqb (64 + count_trailing_zeros 64 s.high) y) false (pick a (bit s.low y) (pick b (bit s.high (y - 64)) false))
    go true b e f =
        let none : bit s.low y ≡ false = ap (λ (w : ℕ). bit w y) z ∙ bit_zero y in
        none ∙ sym (ap (pick (eqb (64 + count_trailing_zeros 64 s.high) y) false) none ∙ nothing (eqb (64 + count_trailing_zeros 64 s.high) y))
    go false true e f =
        bit_and_law s.high (s.high - 1) (y - 64) ∙ lowest_out 64 s.high (y - 64) (omega arith) l
        ∙ ap (λ (q : Bool). pick q false (bit s.high (y - 64))) (moved (ltb-false y 64 e) (eqb (count_trailing_zeros 64 s.high) (y - 64)) refl)
    go false false e f = sym (nothing (eqb (64 + count_trailing_zeros 64 s.high) y))

-- ---- sets made of others

pub in_either : (a b : Roots) (x : ℕ)
    → has (record { low = bit_or a.low b.low; high = bit_or a.high b.high }) x ≡ pick (has a x) true (has b x)
unfolding has
in_either a b x = go (ltb x 64) (ltb x 128)
  where
    go : (p q : Bool) → pick p (bit (bit_or a.low b.low) x) (pick q (bit (bit_or a.high b.high) (x - 64)) false)
        ≡ pick (pick p (bit a.low x) (pick q (bit a.high (x - 64)) false)) true (pick p (bit b.low x) (pick q (bit b.high (x - 64)) false))
    go true q = bit_or_law a.low b.low x
    go false true = bit_or_law a.high b.high (x - 64)
    go false false = refl

pub in_both : (a b : Roots) (x : ℕ)
    → has (record { low = bit_and a.low b.low; high = bit_and a.high b.high }) x ≡ pick (has a x) (has b x) false
unfolding has
in_both a b x = go (ltb x 64) (ltb x 128)
  where
    go : (p q : Bool) → pick p (bit (bit_and a.low b.low) x) (pick q (bit (bit_and a.high b.high) (x - 64)) false)
        ≡ pick (pick p (bit a.low x) (pick q (bit a.high (x - 64)) false)) (pick p (bit b.low x) (pick q (bit b.high (x - 64)) false)) false
    go true q = bit_and_law a.low b.low x
    go false true = bit_and_law a.high b.high (x - 64)
    go false false = refl

pub in_less : (a b : Roots) (x : ℕ)
    → has (record { low = bit_xor (bit_or a.low b.low) b.low; high = bit_xor (bit_or a.high b.high) b.high }) x ≡ pick (has b x) false (has a x)
unfolding has
in_less a b x = go (ltb x 64) (ltb x 128)
  where
    go : (p q : Bool) → pick p (bit (bit_xor (bit_or a.low b.low) b.low) x) (pick q (bit (bit_xor (bit_or a.high b.high) b.high) (x - 64)) false)
        ≡ pick (pick p (bit b.low x) (pick q (bit b.high (x - 64)) false)) false (pick p (bit a.low x) (pick q (bit a.high (x - 64)) false))
    go true q = bit_less a.low b.low x
    go false true = bit_less a.high b.high (x - 64)
    go false false = refl

-- A word of one bit.
one_bit : (x : ℕ) → x < 64 → (k : ℕ) → bit (1 * 2 ^ x % 2 ^ 64) k ≡ eqb x k
one_bit x h k = ap (λ (w : ℕ). bit w k) (ap (λ (w : ℕ). w % 2 ^ 64) (one-mul (2 ^ x)) ∙ mod-eq_of_lt (pow-lt h)) ∙ bit_power x k

pub in_one_low : (x : ℕ) → x < 64 → (y : ℕ) → has (record { low = 1 * 2 ^ x % 2 ^ 64; high = 0 }) y ≡ eqb x y
unfolding has
in_one_low x h y = go (ltb y 64) (ltb y 128) refl
  where
    go : (a b : Bool) → ltb y 64 ≡ a → pick a (bit (1 * 2 ^ x % 2 ^ 64) y) (pick b (bit 0 (y - 64)) false) ≡ eqb x y
    go true b e = one_bit x h y
    go false true e = let g = ltb-false y 64 e in bit_zero (y - 64) ∙ sym (ne_eqb x y (λ q. omega arith))
    go false false e = let g = ltb-false y 64 e in sym (ne_eqb x y (λ q. omega arith))

pub in_one_high : (x : ℕ) → 64 ≤ x → x < 128 → (y : ℕ) → has (record { low = 0; high = 1 * 2 ^ (x - 64) % 2 ^ 64 }) y ≡ eqb x y
unfolding has
in_one_high x g h y = go (ltb y 64) (ltb y 128) refl refl
  where
    moved : 64 ≤ y → (b : Bool) → eqb (x - 64) (y - 64) ≡ b → b ≡ eqb x y
    moved l true e = let z = eqb-true (x - 64) (y - 64) e in sym (eq-eqb x y (omega arith))
    moved l false e = sym (ne_eqb x y (λ q. true≢false (sym (eq-eqb (x - 64) (y - 64) (omega arith)) ∙ e)))

    go : (a b : Bool) → ltb y 64 ≡ a → ltb y 128 ≡ b → pick a (bit 0 y) (pick b (bit (1 * 2 ^ (x - 64) % 2 ^ 64) (y - 64)) false) ≡ eqb x y
    go true b e f = let l = ltb-true y 64 e in bit_zero y ∙ sym (ne_eqb x y (λ q. omega arith))
    go false true e f = one_bit (x - 64) (omega arith) (y - 64) ∙ moved (ltb-false y 64 e) (eqb (x - 64) (y - 64)) refl
    go false false e f = let l = ltb-false y 128 f in sym (ne_eqb x y (λ q. omega arith))

-- ---- how many

-- One number taken out leaves one fewer: the measure of a loop that takes out a number in each round.
pub one_out : (left left' : Roots) (x : ℕ) → has left x ≡ true → ((y : ℕ) → has left' y ≡ pick (eqb x y) false (has left y))
    → count (has left) 128 ≡ suc (count (has left') 128)
one_out left left' x h e =
    count_less (has left) (has left') 128 x (has_below left x h) h
    (e x ∙ ap (λ (b : Bool). pick b false (has left x)) (eq-eqb x x refl))
    (λ z n. sym (e z ∙ ap (λ (b : Bool). pick b false (has left z)) (ne_eqb x z (λ q. n (sym q)))))
