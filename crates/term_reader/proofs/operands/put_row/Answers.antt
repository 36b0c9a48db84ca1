-- `term_reader::operands::put_row` meets its contract: five stores in a row are `sets` of the five numbers. Assumes nothing.
use Prim.Native.Nat.{ℕ, ◌+◌}
use native.Mathlib.Numerals.{towards_suc}
use native.Mathlib.Omega.{arith}
use mathlib.Core.Path.{◌≡◌}
use mathlib.Core.List.{List, [], ◌∷◌}
use lib.ListN.{length, get_or, set}
use lib.Seq.{sets}
use Rattle.term_reader.proofs.operands.put_row.Goals as goal

five_stores : (l : List ℕ) (i k m : ℕ) (xs : List ℕ) → length xs ≡ 4 → m ≡ k
    → set (set (set (set (set l i m) (i + 1) (get_or xs 0 0)) (i + 2) (get_or xs 1 0)) (i + 3) (get_or xs 2 0)) (i + 4) (get_or xs 3 0) ≡ sets l i (k ∷ xs)
five_stores l i k m [] e f = absurd (omega arith)
five_stores l i k m (a ∷ []) e f = absurd (omega arith)
five_stores l i k m (a ∷ b ∷ []) e f = absurd (omega arith)
five_stores l i k m (a ∷ b ∷ c ∷ []) e f = absurd (omega arith)
five_stores l i k m (a ∷ b ∷ c ∷ d ∷ []) e f = rw f (simp towards_suc)
five_stores l i k m (a ∷ b ∷ c ∷ d ∷ x ∷ xs) e f = absurd (omega arith)

pub returns : goal.returns
returns c = five_stores c.args.rows.now _ _ _ c.args.fields.now c.told-fields c.number.ensures
