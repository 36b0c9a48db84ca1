-- 74 comes before every other number of reading (LANGUAGE 5.8).
use Prim.Native.Nat.{ℕ}
use mathlib.Core.Path.{◌≡◌}
use mathlib.Core.Bool.{true, false}
use mathlib.Core.List.{List}
use Rattle.syntax.specs.Result.{ok, err, need, ◌>>=◌}
use Rattle.syntax.specs.Limits.{Limits, in_ranges}
use Rattle.syntax.specs.Answers.{lengths_fit}
use Rattle.syntax.proofs.Answers.{then, needed}

module _ (l : Limits) (script rows : List ℕ) where
  pub set_refused : in_ranges l ≡ false → lengths_fit l script rows ≡ err (74, 0)
  unfolding lengths_fit need ◌>>=◌
  set_refused r = rw r

  pub set_taken : (u : Unit {0}) → lengths_fit l script rows ≡ ok u → in_ranges l ≡ true
  unfolding lengths_fit
  set_taken u h =
      let r = then (need (in_ranges l) (74, 0)) _ u h in
      needed (in_ranges l) (74, 0) r.0 r.1
