-- Rows that decode to a tree, as far as the last uses are found in them: the rows of its terms name variables of the set, and the rows after
-- them are all 0 (LANGUAGE 2.10), so they name nothing.
use Prim.Native.Nat.{ℕ, zero, suc, ◌+◌, ◌*◌, ◌-◌, ◌≤◌, ◌<◌}
use native.Mathlib.Omega.{arith}
use native.Mathlib.Decide.{dec_lt}
use mathlib.Core.Path.{◌≡◌, refl, sym, ap, ◌∙◌}
use mathlib.Core.Bool.{true}
use mathlib.Core.Option.{some}
use mathlib.Core.List.{List, [], ◌++◌}
use lib.ListN.{length, get_or, replicate}
use lib.Seq.{get_or-append-add}
use Rattle.syntax.specs.Limits.{Limits, row_numbers}
use Rattle.syntax.specs.Script.{Term}
use Rattle.syntax.specs.Kinds.{byte_of, newest, kinds, among, kind_of}
use Rattle.syntax.specs.Layout.{in_rows, zeros, lay, rows_of}
use Rattle.syntax.specs.Measures.{size}
use Rattle.syntax.specs.RowParts.{field_at}
use Rattle.syntax.specs.RowTrees.{tree_at}
use Rattle.syntax.proofs.Lengths.{laid_rows}
use Rattle.syntax.proofs.ChoiceRows.{tree_rows}
use Rattle.statics.specs.Uses.{names}
use Rattle.uses.specs.RowUses.{names_of, row_names, NamesBelow}
use Rattle.term_judge.proofs.TreeNames.{none_below, rows_below}

all_zero : (n k : ℕ) → ◌≡◌ {A = ℕ} (get_or (replicate n 0) k 0) 0
all_zero zero k = refl
all_zero (suc n) zero = refl
all_zero (suc n) (suc k) = all_zero n k

-- What is past the terms is 0.
zero_after : (l : Limits) (t : Term) (k : ℕ) → 5 * size t ≤ k → ◌≡◌ {A = ℕ} (get_or (rows_of l t) k 0) 0
unfolding rows_of zeros
zero_after l t k h =
    let n = row_numbers l - length (lay in_rows t) in
    let e : k ≡ length (lay in_rows t) + (k - length (lay in_rows t)) = omega (arith, laid_rows t) in
    ap (λ (m : ℕ). get_or (lay in_rows t ++ replicate n 0) m 0) e ∙ get_or-append-add (lay in_rows t) (replicate n 0) (k - length (lay in_rows t)) 0 ∙ all_zero n (k - length (lay in_rows t))

module _ (l : Limits) (rows : List ℕ) (t : Term) (is : rows ≡ rows_of l t) (stands : tree_at l.variables l.levels rows 0 ≡ some (t, size t)) where
  -- A row of zeros has no kind.
  nothing_named : (r : ℕ) → size t ≤ r → row_names rows r ≡ []
  unfolding names_of kind_of newest kinds among byte_of
  nothing_named r h = let z : field_at rows r 0 ≡ 0 = ap (λ (xs : List ℕ). get_or xs (5 * r + 0) 0) is ∙ zero_after l t (5 * r + 0) (omega arith) in rw z

  pub names_below : NamesBelow l.variables rows (size t)
  names_below = record { room = (tree_rows rows l.variables l.levels 0 t (size t) stands).1; below = λ r x h. within r x h (dec_lt r (size t)); nothing = nothing_named }
    where
      within : (r x : ℕ) → names (row_names rows r) x ≡ true → Dec (r < size t) → x < l.variables
      within r x h (yes b) = rows_below l.variables l.levels rows 0 t (size t) stands r x (omega arith) b h
      within r x h (no b) = none_below l.variables x (ap (λ (xs : List ℕ). names xs x) (sym (nothing_named r (omega arith))) ∙ h)
