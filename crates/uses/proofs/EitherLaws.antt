-- Either of two tests, as `pick a true b`: neither order nor grouping counts. Assumes nothing.
use mathlib.Core.Path.{◌≡◌, refl, sym, ap, ◌∙◌}
use mathlib.Core.Bool.{Bool, true, false}
use Rattle.syntax.specs.Result.{pick}

pub swapped : (a b : Bool) → pick a true b ≡ pick b true a
swapped true true = refl
swapped true false = refl
swapped false true = refl
swapped false false = refl

pub grouped : (a b c : Bool) → pick a true (pick b true c) ≡ pick (pick a true b) true c
grouped true b c = refl
grouped false b c = refl

-- The first of three tests may as well come second, or last.
pub second : (a b c : Bool) → pick a true (pick b true c) ≡ pick b true (pick a true c)
second a b c = grouped a b c ∙ ap (λ (d : Bool). pick d true c) (swapped a b) ∙ sym (grouped b a c)

pub turned : (a b c : Bool) → pick a true (pick b true c) ≡ pick b true (pick c true a)
turned a b c = second a b c ∙ ap (λ (d : Bool). pick b true d) (swapped a c)

-- Where either holds, what follows from each does.
pub one_holds : {P : Type 0} (a b : Bool) → pick a true b ≡ true → (a ≡ true → P) → (b ≡ true → P) → P
one_holds true b h f g = f refl
one_holds false b h f g = g h
