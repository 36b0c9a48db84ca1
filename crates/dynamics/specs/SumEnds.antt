-- The definition of the sum tried at the ends of the range (LANGUAGE 4.16). Each number is given by its 32 bits: the largest by 2,147,483,647, the
-- smallest by 2,147,483,648, and -1 by 4,294,967,295.
use Rattle.std.specs.Prelude.{◌≡◌, refl}
use Rattle.dynamics.specs.Signed
use Rattle.dynamics.specs.Signed.{held_sum}

-- The largest twice, the smallest twice; one past each end, and just at it; the largest and the smallest; 5 and -3, -5 and -3.
pub ends :
    (held_sum 2147483647 2147483647 ≡ 2147483647)
    × (held_sum 2147483648 2147483648 ≡ 2147483648)
    × (held_sum 2147483647 1 ≡ 2147483647)
    × (held_sum 4294967295 2147483648 ≡ 2147483648)
    × (held_sum 2147483646 1 ≡ 2147483647)
    × (held_sum 4294967295 2147483649 ≡ 2147483648)
    × (held_sum 2147483647 2147483648 ≡ 4294967295)
    × (held_sum 5 4294967293 ≡ 2)
    × (held_sum 4294967291 4294967293 ≡ 4294967288)
unfolding Signed.held held_sum
ends = (refl, refl, refl, refl, refl, refl, refl, refl, refl)
