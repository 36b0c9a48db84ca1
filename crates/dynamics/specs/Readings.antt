-- The readings of a run as their bits (LANGUAGE 4.9).
use Rattle.std.specs.Prelude.{ℕ, List, ℤ, pos, get_or}
use Rattle.std.specs.Int.{w32}
use Rattle.std.proofs.Common.{of_z}

-- Reading n as its 32 bits (LANGUAGE 4.9).
unfoldable pub bits_of : List ℤ → ℕ → ℕ
bits_of readings n = of_z w32 (get_or readings n (pos 0))
