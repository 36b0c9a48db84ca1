-- The store with one row changed.
use mathlib.Core.Path.{◌≡◌, refl, sym, ap}
use mathlib.Core.Logic.{◌≢◌}
use mathlib.Core.Bool.{Bool, true, false, false≢true}
use borrow.Author.Tests.{eqb-true, eq-eqb}
use Rattle.syntax.specs.Result.{pick}
use Rattle.dynamics.specs.Values.{Location, variable, cell, Row}
use Rattle.dynamics.specs.Store.{Store, same_location, put}

pub same_location_law : (a b : Location) → same_location a b ≡ true → a ≡ b
unfolding same_location
same_location_law (variable x) (variable y) h = ap variable (eqb-true x y h)
same_location_law (variable x) (cell d) h = absurd (false≢true h)
same_location_law (cell c) (variable y) h = absurd (false≢true h)
same_location_law (cell c) (cell d) h = ap cell (eqb-true c d h)

location_same : (a : Location) → same_location a a ≡ true
unfolding same_location
location_same (variable x) = eq-eqb x x refl
location_same (cell c) = eq-eqb c c refl

pub put_same : (S : Store) (l : Location) (r : Row) → put S l r l ≡ r
unfolding put
put_same S l r = rw (location_same l)

pub put_other : (S : Store) (l : Location) (r : Row) (k : Location) → k ≢ l → put S l r k ≡ S k
unfolding put
put_other S l r k h = go (same_location l k) refl
  where
    go : (b : Bool) → same_location l k ≡ b → pick b r (S k) ≡ S k
    go true e = absurd (h (sym (same_location_law l k e)))
    go false e = refl
