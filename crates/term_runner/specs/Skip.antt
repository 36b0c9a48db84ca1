-- What the code answers that passes over the rows of the block of a choice that does not run (LANGUAGE 4.23). No rule of the language is
-- stated here.
use Rattle.std.specs.Prelude.{ℕ, ◌+◌, ◌≡◌, List, eqb}
use Rattle.syntax.specs.Kinds.{wraps_of}
use Rattle.syntax.specs.Limits.{Limits}
use Rattle.syntax.specs.Result.{pick}
use Rattle.syntax.specs.RowParts.{field_at}
use Rattle.syntax.specs.RowTrees.{IsTree, tree_at}
use Rattle.term_runner.specs.Parts.{end_of}
use Rattle.term_runner.specs.declared.around.Standing.{Standing}

-- The terms that stand inside the term at row i, those inside them not counted: one in a box, let or assign, two in a choice.
unfoldable pub inside_at : List ℕ → ℕ → ℕ
inside_at rows i =
    let kind = field_at rows i 0 in
    pick (wraps_of kind) 1 (pick (eqb kind 11) (field_at rows i 1) (pick (eqb kind 12) 2 0))

-- A term stands from row i on, under some set and so many levels.
pub record Passable (rows : List ℕ) (i : ℕ) : Type 0 where
  pub set : Limits
  pub levels : ℕ
  pub is : IsTree (tree_at set.variables levels rows i)

-- Row j is the one after it.
abbrev pub Passed : List ℕ → ℕ → ℕ → Type 0
Passed rows i j = (set : Limits) (levels : ℕ) → IsTree (tree_at set.variables levels rows i) → j ≡ end_of (tree_at set.variables levels rows i)

-- Row j has the block that runs of the choice at row i, whose place holds the number n.
pub record Chosen (rows : List ℕ) (i n j : ℕ) : Type 0 where
  pub first : (n ≡ 0 → ⊥) → j ≡ i + 1
  pub second : n ≡ 0 → Passed rows (i + 1) j

-- The same standing, before another row.
abbrev pub onwards : Standing → ℕ → Standing
onwards r j = record { value = r.value; taken = r.taken; opened = r.opened; next = j }

-- What is asked and answered after that block ran: the second block is passed over if the first one ran.
abbrev pub PastReady : List ℕ → ℕ → Standing → Type 0
PastReady rows n ran = (n ≡ 0 → ⊥) → Passable rows ran.next

pub record Past (rows : List ℕ) (n : ℕ) (ran r : Standing) : Type 0 where
  pub is : r ≡ onwards ran r.next
  pub first : (n ≡ 0 → ⊥) → Passed rows ran.next r.next
  pub second : n ≡ 0 → r.next ≡ ran.next
