-- Which borrows count, and who may hold one of a root (LANGUAGE 3.10 to 3.12).
use Rattle.std.specs.Prelude.{ℕ, ◌≡◌, Bool, true, List}
use Rattle.bars.specs.declared.bars.Borrows.{Borrows}
use Rattle.bars.specs.declared.bars.Borrows.TheVariants as borrows
use Rattle.variables.specs.declared.table.Row.{Row}
use Rattle.variables.specs.declared.roots.Roots.{Roots}
use Rattle.statics.specs.Environment.{Borrow}
use Rattle.statics.specs.Bars.{borrows_any, borrows_exclusive, held_by}
use Rattle.variables.specs.Masks.{has}
use Rattle.variables.specs.Table.{environment_of}

-- Any borrow, or an exclusive one.
unfoldable pub borrows_by : Borrows → Borrow → ℕ → Bool
borrows_by borrows.Any = borrows_any
borrows_by borrows.Exclusive = borrows_exclusive

-- All who hold a borrow of a place with the root, any or an exclusive one, are in the set.
abbrev pub MayHold : List Row → Borrows → ℕ → Roots → Type 0
MayHold env which root s = (y : ℕ) → held_by (borrows_by which) (environment_of env y) root ≡ true → has s y ≡ true
