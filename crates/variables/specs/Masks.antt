-- Sets of variable numbers in two words of 64 bits: number x is bit x of the first, or bit x - 64 of the second. No rule of the language is
-- stated here.
use Rattle.std.specs.Prelude.{ℕ, zero, suc, ◌-◌, ◌/◌, ◌%◌, ◌^◌, Bool, false, ◌&&◌, ltb, eqb, List, [], ◌∷◌}
use Rattle.syntax.specs.Result.{pick}
use Rattle.variables.specs.declared.roots.Roots.{Roots}

unfoldable pub bit : ℕ → ℕ → Bool
bit word k = eqb (word / 2 ^ k % 2) 1

-- No number from 128 on is in a set: no set of limits has more variables (LANGUAGE 2.8).
unfoldable pub has : Roots → ℕ → Bool
has s x = pick (ltb x 64) (bit s.low x) (pick (ltb x 128) (bit s.high (x - 64)) false)

unfoldable pub is_empty : Roots → Bool
is_empty s = eqb s.low 0 && eqb s.high 0

-- The numbers with the property among the n from x on, lowest first.
unfoldable pub numbers_from : (ℕ → Bool) → ℕ → ℕ → List ℕ
numbers_from f x zero = []
numbers_from f x (suc n) = pick (f x) (x ∷ numbers_from f (suc x) n) (numbers_from f (suc x) n)

-- The numbers of a set, lowest first.
unfoldable pub members : Roots → List ℕ
members s = numbers_from (has s) 0 128
