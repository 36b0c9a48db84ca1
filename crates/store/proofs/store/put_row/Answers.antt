-- `store::store::put_row` meets its contract. Assumes nothing.
use Rattle.store.proofs.WordLaws.{row_small, written}
use Rattle.syntax.specs.Limits.{store_numbers}
use native.Mathlib.Omega.{arith}
use lib.ListN.{length-set}
use mathlib.Core.Path.{refl}
use Rattle.store.proofs.store.put_row.Goals as goal

pub overflow_mul-at : goal.overflow_mul-at
overflow_mul-at c = omega (arith, row_small _ _ _ c.requires.0 c.requires.1)

pub offset_bounds-store-at : goal.offset_bounds-store-at
offset_bounds-store-at c = omega (arith, row_small _ _ _ c.requires.0 c.requires.1)

pub bounds-store-at : goal.bounds-store-at
unfolding store_numbers
bounds-store-at c = omega (arith, c.requires.0.long)

pub overflow_add-store : goal.overflow_add-store
overflow_add-store c = omega (arith, row_small _ _ _ c.requires.0 c.requires.1)

pub offset_bounds-store-at-2 : goal.offset_bounds-store-at-2
offset_bounds-store-at-2 c = omega (arith, row_small _ _ _ c.requires.0 c.requires.1)

pub bounds-store-at-2 : goal.bounds-store-at-2
unfolding store_numbers
bounds-store-at-2 c = simp length-set (omega (arith, c.requires.0.long))

pub overflow_add-store-2 : goal.overflow_add-store-2
overflow_add-store-2 c = omega (arith, row_small _ _ _ c.requires.0 c.requires.1)

pub offset_bounds-store-at-3 : goal.offset_bounds-store-at-3
offset_bounds-store-at-3 c = omega (arith, row_small _ _ _ c.requires.0 c.requires.1)

pub bounds-store-at-3 : goal.bounds-store-at-3
unfolding store_numbers
bounds-store-at-3 c = simp length-set (omega (arith, c.requires.0.long))

pub returns : goal.returns
returns c = rw c.words-state.ensures (written _ _ _ _ _ c.requires.0 c.requires.1 c.requires.2 refl)
