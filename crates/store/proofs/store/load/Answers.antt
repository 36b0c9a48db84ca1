-- `store::store::load` meets its contract. Assumes nothing.
use Rattle.store.proofs.WordLaws.{row_small, loaded}
use Rattle.syntax.specs.Limits.{store_numbers}
use native.Mathlib.Omega.{arith}
use borrow.Author.Rules.{rules}
use Rattle.store.proofs.store.load.Goals as goal

pub overflow_mul-at : goal.overflow_mul-at
overflow_mul-at c = omega (arith, row_small _ _ _ c.requires.0 c.requires.1)

pub offset_bounds-store-at : goal.offset_bounds-store-at
offset_bounds-store-at c = omega (arith, row_small _ _ _ c.requires.0 c.requires.1)

pub bounds-store-at : goal.bounds-store-at
unfolding store_numbers
bounds-store-at c = search rules

pub overflow_add-at : goal.overflow_add-at
overflow_add-at c = omega (arith, row_small _ _ _ c.requires.0 c.requires.1)

pub offset_bounds-store-at-2 : goal.offset_bounds-store-at-2
offset_bounds-store-at-2 c = omega (arith, row_small _ _ _ c.requires.0 c.requires.1)

pub bounds-store-at-2 : goal.bounds-store-at-2
unfolding store_numbers
bounds-store-at-2 c = search rules

pub overflow_add-at-2 : goal.overflow_add-at-2
overflow_add-at-2 c = omega (arith, row_small _ _ _ c.requires.0 c.requires.1)

pub offset_bounds-store-at-3 : goal.offset_bounds-store-at-3
offset_bounds-store-at-3 c = omega (arith, row_small _ _ _ c.requires.0 c.requires.1)

pub bounds-store-at-3 : goal.bounds-store-at-3
unfolding store_numbers
bounds-store-at-3 c = search rules

pub returns : goal.returns
returns c = loaded _ _ c.requires.0 _ c.requires.1 _ c.from_words.ensures
