-- Signed numbers of 32 bits: their order, and their sum held to the range (LANGUAGE 4.16).
use Rattle.std.specs.Prelude.{ℕ, ◌+◌, ◌%◌, Bool, ltb, ℤ, pos, negsuc, ◌+ℤ◌}
use Rattle.std.specs.Int.Signed.{lt_z}
use Rattle.std.specs.Int.{w32}
use Rattle.std.proofs.Common.{of_z, to_z}
use Rattle.syntax.specs.Result.{pick}

-- The order of the signed numbers whose 32 bits are given.
unfoldable pub less : ℕ → ℕ → Bool
less a b = ltb ((a + 2147483648) % 4294967296) ((b + 2147483648) % 4294967296)

-- 1 if the first is less, otherwise 0.
unfoldable pub compared : ℕ → ℕ → ℕ
compared a b = pick (less a b) 1 0

-- A number held to the ends of the 32-bit range.
unfoldable pub held : ℤ → ℤ
held z = pick (lt_z (pos 2147483647) z) (pos 2147483647) (pick (lt_z z (negsuc 2147483647)) (negsuc 2147483647) z)

-- The sum of the signed numbers whose 32 bits are given, held to the range, as its 32 bits.
unfoldable pub held_sum : ℕ → ℕ → ℕ
held_sum a b = of_z w32 (held (to_z w32 a +ℤ to_z w32 b))
