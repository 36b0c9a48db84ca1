-- `row_judge::rows::first_from` meets its contract. Assumes nothing.
use Prim.Native.Nat.{ℕ, suc, ◌+◌}
use native.Mathlib.Omega.{arith}
use mathlib.Core.Path.{◌≡◌, refl, sym, ◌∙◌}
use mathlib.Core.Bool.{Bool, true, false, not, cond}
use mathlib.Core.List.{List, [], ◌∷◌}
use lib.ListN.{length, drop, length-drop}
use lib.Dec.{eqb, ltb}
use borrow.Author.Tests.{ltb-false}
use Rattle.std.specs.Prelude.{Option, Some, None}
use Rattle.std.proofs.Common.{rules, tests}
use Rattle.std.specs.List.{position_or_len}
use Rattle.std.proofs.lemmas.Iterator.{YieldsList-from_slice}
use Rattle.std.proofs.lemmas.Iterator.Search.{position_from_yields_List}
use Rattle.std.proofs.lemmas.List.Sums.{prefix_len-le-length}
use Rattle.std.proofs.lemmas.List.{take_rest}
use Rattle.syntax.specs.Result.{pick}
use Rattle.syntax.specs.RowParts.{first_used}
use Rattle.row_judge.proofs.rows.first_from.Goals as goal

abbrev used : ℕ → Bool
used x = not (eqb x 0)

used_position : (k : ℕ) (xs : List ℕ) → first_used k xs ≡ k + position_or_len used xs
unfolding first_used
used_position k [] = omega arith
used_position k (x ∷ xs) = go (eqb x 0) (used_position (suc k) xs)
  where
    go : (t : Bool) → first_used (suc k) xs ≡ suc k + position_or_len used xs → pick t (first_used (suc k) xs) k ≡ k + cond (not (not t)) (1 + position_or_len used xs) 0
    go true h = omega (arith, h)
    go false h = omega arith

found : (k : ℕ) (xs : List ℕ) (r : Option ℕ) → r ≡ cond (ltb (position_or_len used xs) (length xs)) (Some (position_or_len used xs)) None → (p : ℕ) → r ≡ Some p → k + p ≡ first_used k xs
found k xs r h p e = go (ltb (position_or_len used xs) (length xs)) (sym e ∙ h)
  where
    go : (t : Bool) → Some p ≡ cond t (Some (position_or_len used xs)) None → k + p ≡ first_used k xs
    go true q = let z : p ≡ position_or_len used xs = cc in omega (arith, used_position k xs)
    go false q = absurd cc

none_found : (k : ℕ) (xs : List ℕ) (r : Option ℕ) → r ≡ cond (ltb (position_or_len used xs) (length xs)) (Some (position_or_len used xs)) None → r ≡ None → k + length xs ≡ first_used k xs
none_found k xs r h e = go (ltb (position_or_len used xs) (length xs)) refl (sym e ∙ h)
  where
    go : (t : Bool) → ltb (position_or_len used xs) (length xs) ≡ t → None ≡ cond t (Some (position_or_len used xs)) None → k + length xs ≡ first_used k xs
    go true w q = absurd cc
    go false w q = omega (arith, ltb-false (position_or_len used xs) (length xs) w, prefix_len-le-length (λ (x : ℕ). not (used x)) xs, used_position k xs)

pub returns-in-Some : goal.returns-in-Some
returns-in-Some c =
    let xs = drop c.args.from c.args.rows.now in
    found _ xs _ (position_from_yields_List used _ _ _ c.position.ensures.ran (YieldsList-from_slice xs (c.iter.ensures.rest ∙ take_rest c.args.rows.now c.args.from)) (λ x b q k. search (rules, tests))) _ c.in-Some.is

pub returns-in-None : goal.returns-in-None
returns-in-None c =
    let xs = drop c.args.from c.args.rows.now in
    let q = none_found c.args.from xs c.position.result (position_from_yields_List used _ _ c.position.result c.position.ensures.ran (YieldsList-from_slice xs (c.iter.ensures.rest ∙ take_rest c.args.rows.now c.args.from)) (λ x b q k. search (rules, tests))) c.in-None.is in
    omega (arith, q, length-drop c.args.from c.args.rows.now)
