-- Signed numbers of 32 bits: by cases on the sign each fact is one of naturals.
use mathlib.Core.Path.{◌≡◌, refl}
use mathlib.Core.Bool.{Bool, true, false, cond}
use Prim.Native.Nat.{ℕ, suc, ◌-◌, ◌^◌, ◌<◌, ◌≤◌}
use native.Mathlib.Omega.{arith}
use lib.Dec.{T, ltb}
use lib.IntN.{ℤ, pos, negsuc, ◌+ℤ◌, ◌-ℤ◌, sub_ℕ, nat_abs}
use lib.Signed.{mag, lt_z, non_neg}
use mir.Syntax.{w32, w64}
use mir.Val.{Fits, SFits, to_z, of_z}
use mir.Facts.{sfits_widen, to_z-of_z}
use borrow.Author.Tests.{lt-ltb, le-ltb, ltb-true, ltb-false}

-- ---- widened

pub fits64 : {z : ℤ} → SFits w32 z → SFits w64 z
fits64 h = sfits_widen {w = w32} {w' = w64} tt h

-- What a cast of an i32 to an i64 asks and gives.
pub widens : {z : ℤ} → SFits w32 z → SFits w64 (to_z w32 (of_z w32 z))
widens h = rw (to_z-of_z h) (fits64 h)

sub_lt : (a b : ℕ) → b ≤ a → sub_ℕ a b ≡ pos (a - b)
sub_lt a b h = rw (le-ltb a b h)

sub_ge : (a b : ℕ) → a < b → sub_ℕ a b ≡ negsuc (b - suc a)
sub_ge a b h = rw (lt-ltb a b h)

sub_mag : (a b m : ℕ) → a < m → b < m → mag (sub_ℕ a (suc b)) < m
sub_mag a b m h k = go (ltb a (suc b)) refl
  where
    go : (t : Bool) → ltb a (suc b) ≡ t → mag (cond t (negsuc (suc b - suc a)) (pos (a - suc b))) < m
    go true e = omega arith
    go false e = omega arith

-- ---- bits of a number

pub lift_fits : (z : ℤ) → SFits w32 z → SFits w64 (z +ℤ pos 4294967296)
lift_fits (pos n) h = record { sfits = omega (arith, h.sfits) }
lift_fits (negsuc n) h = record { sfits = sub_mag 4294967296 n (2 ^ 63) (omega arith) (omega (arith, h.sfits)) }

lift_is : (n : ℕ) → n < 2 ^ 31 → negsuc n +ℤ pos 4294967296 ≡ pos (4294967296 - suc n)
lift_is n h = sub_lt 4294967296 (suc n) (omega arith)

pub lift_asks : (z : ℤ) → SFits w32 z → lt_z z (pos 0) ≡ true → T (non_neg (z +ℤ pos 4294967296)) × Fits w32 (nat_abs (z +ℤ pos 4294967296))
lift_asks (pos n) h e = absurd (omega (arith, ltb-true n 0 e))
lift_asks (negsuc n) h e = rw (lift_is n h.sfits) (tt, record { fits = omega arith })

pub lift_bits : (z : ℤ) → SFits w32 z → lt_z z (pos 0) ≡ true → nat_abs (z +ℤ pos 4294967296) ≡ of_z w32 z
lift_bits (pos n) h e = absurd (omega (arith, ltb-true n 0 e))
lift_bits (negsuc n) h e = rw (lift_is n h.sfits)

pub plain_asks : (z : ℤ) → SFits w32 z → lt_z z (pos 0) ≡ false → T (non_neg z) × Fits w32 (nat_abs z)
plain_asks (pos n) h e = (tt, record { fits = omega (arith, h.sfits) })
plain_asks (negsuc n) h e = let z : ◌≡◌ {A = ℕ} 0 1 = cc in absurd (omega arith)

pub plain_bits : (z : ℤ) → lt_z z (pos 0) ≡ false → nat_abs z ≡ of_z w32 z
plain_bits (pos n) e = refl
plain_bits (negsuc n) e = let z : ◌≡◌ {A = ℕ} 0 1 = cc in absurd (omega arith)

-- ---- the number of bits

low : (a : ℕ) → a < 2147483648 → to_z w32 a ≡ pos a
low a h = rw (lt-ltb a 2147483648 h)

high : (a : ℕ) → 2147483648 ≤ a → to_z w32 a ≡ negsuc (4294967296 - suc a)
high a h = rw (le-ltb a 2147483648 h)

pub low_fits : (b : ℕ) → b < 2147483648 → SFits w32 (pos b)
low_fits b h = record { sfits = h }

pub down_fits : (b : ℕ) → b < 4294967296 → SFits w64 (pos b -ℤ pos 4294967296)
down_fits b h = record { sfits = sub_mag b 4294967295 (2 ^ 63) (omega arith) (omega arith) }

down_is : (b : ℕ) → b < 4294967296 → pos b -ℤ pos 4294967296 ≡ negsuc (4294967296 - suc b)
down_is b h = sub_ge b 4294967296 h

pub down_small : (b : ℕ) → b < 4294967296 → 2147483648 ≤ b → SFits w32 (pos b -ℤ pos 4294967296)
down_small b h k = rw (down_is b h) (record { sfits = omega arith })

pub down_number : (b : ℕ) → b < 4294967296 → 2147483648 ≤ b → pos b -ℤ pos 4294967296 ≡ to_z w32 b
down_number b h k = rw (down_is b h, high b k)

-- ---- the sum

pub sum_fits : (a b : ℤ) → SFits w32 a → SFits w32 b → SFits w64 (a +ℤ b)
sum_fits (pos a) (pos b) h k = record { sfits = omega (arith, h.sfits, k.sfits) }
sum_fits (pos a) (negsuc b) h k = record { sfits = sub_mag a b (2 ^ 63) (omega (arith, h.sfits)) (omega (arith, k.sfits)) }
sum_fits (negsuc a) (pos b) h k = record { sfits = sub_mag b a (2 ^ 63) (omega (arith, k.sfits)) (omega (arith, h.sfits)) }
sum_fits (negsuc a) (negsuc b) h k = record { sfits = omega (arith, h.sfits, k.sfits) }

-- Made in 64 bits from two numbers of 32, and read back.
pub sum_is : {a b : ℤ} → SFits w32 a → SFits w32 b → to_z w64 (of_z w64 (to_z w64 (of_z w64 (to_z w32 (of_z w32 a))) +ℤ to_z w64 (of_z w64 (to_z w32 (of_z w32 b))))) ≡ a +ℤ b
sum_is h k = simp (to_z-of_z h, to_z-of_z k, to_z-of_z (fits64 h), to_z-of_z (fits64 k), to_z-of_z (sum_fits _ _ h k))

-- Between the ends of the range it is a number of 32 bits.
pub within : (z : ℤ) → lt_z (pos 2147483647) z ≡ false → lt_z z (negsuc 2147483647) ≡ false → SFits w32 z
within (pos n) a b = record { sfits = omega (arith, ltb-false 2147483647 n a) }
within (negsuc n) a b = record { sfits = omega (arith, ltb-false 2147483647 n b) }
