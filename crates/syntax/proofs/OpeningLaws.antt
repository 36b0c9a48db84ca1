-- The first byte of what is left, as `first` gives it.
use Prim.Native.Nat.{ℕ, ◌<◌}
use native.Mathlib.Omega.{arith}
use mathlib.Core.Path.{◌≡◌, sym, ◌∙◌}
use mathlib.Core.Bool.{true, false}
use mathlib.Core.List.{List, [], ◌∷◌}
use lib.ListN.{length, get_or}
use lib.Dec.{eqb, ltb}
use borrow.Author.Tests.{ne_eqb, lt-ltb}
use Rattle.std.proofs.Common.{Some, None}
use Rattle.std.specs.List.{slice_get}
use Rattle.std.proofs.lemmas.Option.{slice_get_within, get_or_from_slice_get}

-- No byte begins it.
pub nothing_first : (t : List ℕ) → None ≡ slice_get t 0 → length t ≡ 0
nothing_first [] e = omega arith
nothing_first (x ∷ t) e = absurd cc

-- The byte x begins it, which another number is.
module _ (t : List ℕ) (x : ℕ) (e : Some x ≡ slice_get t 0) where
  some_first : 0 < length t
  some_first = slice_get_within t 0 x (sym e)

  pub first_there : eqb (length t) 0 ≡ false
  first_there = ne_eqb (length t) 0 (λ z. omega (arith, some_first))

  pub first_within : ltb 0 (length t) ≡ true
  first_within = lt-ltb 0 (length t) some_first

  pub first_is : (y : ℕ) → y ≡ x → get_or t 0 0 ≡ y
  first_is y z = get_or_from_slice_get t 0 x 0 (sym e) ∙ sym z
