-- `row_judge::rows::bits_of` meets its contract. Assumes nothing.
use Prim.Native.Nat.{ℕ}
use mathlib.Core.Path.{◌≡◌, refl, ◌∙◌}
use mathlib.Core.List.{List, [], ◌∷◌}
use lib.Bits.{bit_or}
use Rattle.std.proofs.Common.{rules, tests}
use Rattle.std.specs.List.{fold}
use Rattle.std.proofs.lemmas.Iterator.{YieldsList-from_slice}
use Rattle.std.proofs.lemmas.Iterator.Consumers.{fold_from_yields_List}
use Rattle.syntax.specs.RowParts.{bits_of}
use Rattle.row_judge.proofs.rows.bits_of.Goals as goal

bits_fold : (b : ℕ) (xs : List ℕ) → fold bit_or b xs ≡ bits_of b xs
unfolding bits_of
bits_fold b [] = refl
bits_fold b (x ∷ xs) = bits_fold (bit_or b x) xs

pub returns : goal.returns
returns c =
    fold_from_yields_List _ bit_or 0 _ c.fold.ensures.ran (YieldsList-from_slice c.args.numbers.now cc) (λ a x b q k. search (rules, tests))
    ∙ bits_fold 0 c.args.numbers.now
