-- `row_judge::rows::all_zero` meets its contract: each field is tested, as `fields_fit` does where no operand is left. Assumes nothing.
use Prim.Native.Nat.{ℕ}
use mathlib.Core.Path.{◌≡◌, refl, ap, ◌∙◌}
use mathlib.Core.Bool.{Bool, ◌&&◌}
use mathlib.Core.List.{List, [], ◌∷◌}
use lib.Dec.{eqb}
use Rattle.std.proofs.Common.{rules, tests}
use Rattle.std.specs.List.{list_all}
use Rattle.std.proofs.lemmas.Iterator.{YieldsList-from_slice}
use Rattle.std.proofs.lemmas.Iterator.Search.{all_from_yields_List}
use Rattle.syntax.specs.RowParts.{fields_fit}
use Rattle.row_judge.proofs.rows.all_zero.Goals as goal

zeros_fit : (xs : List ℕ) → list_all (λ x. eqb x 0) xs ≡ fields_fit [] xs
unfolding fields_fit
zeros_fit [] = refl
zeros_fit (x ∷ xs) = ap (λ (b : Bool). eqb x 0 && b) (zeros_fit xs)

pub returns : goal.returns
returns c =
    all_from_yields_List (λ x. eqb x 0) _ _ _ c.all.ensures.ran (YieldsList-from_slice c.args.fields.now cc) (λ x b q k. search (rules, tests))
    ∙ zeros_fit c.args.fields.now
