-- A line as the code puts it together: text after text in the buffer, and numbers in decimal digits, which always fit it.
use Prim.Native.Nat.{ℕ, zero, suc, ◌+◌, ◌*◌, ◌/◌, ◌%◌, ◌≤◌, ◌<◌}
use native.Mathlib.Omega.{arith}
use mathlib.Core.Bool.{Bool, true, false}
use mathlib.Core.Path.{◌≡◌, refl, ap, ◌∙◌}
use mathlib.Core.List.{List, [], ◌∷◌, ◌++◌, append_assoc}
use lib.Dec.{ltb}
use lib.IntN.{ℤ, pos, negsuc, nat_abs}
use lib.Signed.{lt_z}
use lib.ListN.{length, length-append}
use mir.Syntax.{w32, w64}
use mir.Facts.{to_z-of_z}
use mir.Val.{Fits, SFits}
use borrow.Author.Tests.{lt-ltb, le-ltb, ltb-true, ltb-false}
use Rattle.syntax.specs.Result.{pick}
use Rattle.program.specs.Line.{digits_by, decimal, signed}
use Rattle.program.specs.declared.line.Text.{Text}
use Rattle.program.specs.Texts.{text_in, Appended}

-- Any bounds that are no less than the number give the same digits.
digits_enough : (k m n : ℕ) → n ≤ k → n ≤ m → digits_by k n ≡ digits_by m n
unfolding digits_by
digits_enough zero zero n h g = refl
digits_enough zero (suc m) n h g = rw (lt-ltb n 10 (omega arith)) (ap (λ (x : ℕ). (48 + x) ∷ []) (omega arith))
digits_enough (suc k) zero n h g = rw (lt-ltb n 10 (omega arith)) (ap (λ (x : ℕ). (48 + x) ∷ []) (omega arith))
digits_enough (suc k) (suc m) n h g =
    ap (λ (x : List ℕ). pick (ltb n 10) ((48 + n) ∷ []) (x ++ ((48 + n % 10) ∷ []))) (digits_enough k m (n / 10) (omega arith) (omega arith))

-- `decimal` as its rule alone: one digit, or the digits of a tenth and the last digit. Its bound decides nothing.
pub decimal_is : (n : ℕ) → decimal n ≡ pick (ltb n 10) ((48 + n) ∷ []) (decimal (n / 10) ++ ((48 + n % 10) ∷ []))
unfolding decimal digits_by
decimal_is zero = refl
decimal_is (suc k) =
    ap (λ (x : List ℕ). pick (ltb (suc k) 10) ((48 + suc k) ∷ []) (x ++ ((48 + suc k % 10) ∷ []))) (digits_enough k (suc k / 10) (suc k / 10) (omega arith) (omega arith))

-- One digit, and one digit more.
pub decimal_one : (n : ℕ) → n < 10 → decimal n ≡ (48 + n) ∷ []
decimal_one n h = decimal_is n ∙ rw (lt-ltb n 10 h)

pub decimal_more : (n : ℕ) → 10 ≤ n → decimal n ≡ decimal (n / 10) ++ ((48 + n % 10) ∷ [])
decimal_more n h = decimal_is n ∙ rw (le-ltb n 10 h)

-- The digits of a tenth are one fewer.
pub decimal_tenth : (n : ℕ) → 10 ≤ n → length (decimal n) ≡ length (decimal (n / 10)) + 1
decimal_tenth n h = ap length (decimal_more n h) ∙ length-append (decimal (n / 10)) ((48 + n % 10) ∷ [])

-- The numbers of at most d + 1 digits are those below this.
digits_hold : ℕ → ℕ
digits_hold zero = 10
digits_hold (suc d) = 10 * digits_hold d

decimal_longer : (d n : ℕ) → length (decimal (n / 10)) ≤ d → length (decimal n) ≤ suc d
decimal_longer d n h = go (ltb n 10) refl
  where
    go : (b : Bool) → ltb n 10 ≡ b → length (decimal n) ≤ suc d
    go true e = omega (arith, ap length (decimal_one n (ltb-true n 10 e)))
    go false e = omega (arith, decimal_tenth n (ltb-false n 10 e))

decimal_short : (d n : ℕ) → n < digits_hold d → length (decimal n) ≤ suc d
unfolding digits_hold
decimal_short zero n h = omega (arith, ap length (decimal_one n h))
decimal_short (suc d) n h = decimal_longer (suc d) n (decimal_short d (n / 10) (omega arith))

pub decimal_word : (n : ℕ) → Fits w64 n → length (decimal n) ≤ 20
unfolding digits_hold
decimal_word n h = decimal_short 19 n (omega (arith, h.fits))

pub decimal_half : (n : ℕ) → n ≤ 2147483648 → length (decimal n) ≤ 10
unfolding digits_hold
decimal_half n h = decimal_short 9 n (omega arith)

-- One text after another.
pub append_next : {a b c : Text} {x y : List ℕ} → Appended a x b → Appended b y c → Appended a (x ++ y) c
append_next {a} {b} {c} {x} {y} p q = record {
  ends = omega (arith, p.ends, q.ends, length-append x y);
  holds = q.holds ∙ ap (λ (k : List ℕ). k ++ y) p.holds ∙ append_assoc (text_in a) x y;
}

-- The digits of a number below 10, and those of a tenth with the last one behind.
pub digit_put : {a b : Text} (n digit : ℕ) → n < 10 → digit ≡ 48 + n → Appended a (digit ∷ []) b → Appended a (decimal n) b
digit_put n digit h e p = rw (decimal_one n h, ← e) p

pub digits_put : {a b c : Text} (n digit : ℕ) → 10 ≤ n → digit ≡ 48 + n % 10 → Appended a (decimal (n / 10)) b → Appended b (digit ∷ []) c → Appended a (decimal n) c
digits_put n digit h e p q = rw (decimal_more n h, ← e) (append_next p q)

-- A signed number, by its sign.
pub signed_plain : (z : ℤ) → lt_z z (pos 0) ≡ false → signed z ≡ decimal (nat_abs z)
unfolding signed
signed_plain (pos n) h = refl
signed_plain (negsuc n) h = let z : ◌≡◌ {A = ℕ} 0 1 = cc in absurd (omega arith)

pub signed_minus : (z : ℤ) → lt_z z (pos 0) ≡ true → signed z ≡ (45 ∷ []) ++ decimal (nat_abs z)
unfolding signed
signed_minus (pos n) h = absurd (omega (arith, ltb-true n 0 h))
signed_minus (negsuc n) h = refl

pub signed_short : (z : ℤ) → SFits w32 z → length (signed z) ≤ 11
unfolding signed
signed_short (pos n) h = omega (arith, decimal_half n (omega (arith, h.sfits)))
signed_short (negsuc n) h = omega (arith, decimal_half (suc n) (omega (arith, h.sfits)))

-- How long numbers are at most, for what puts several.
pub ruleset lengths = (decimal_word, signed_short, to_z-of_z)
