-- The term that stands from a row on, row by row, as far as code relies on it: room for each row, a known kind, numbers that index
-- something in their ranges, one term in a block at least, and the levels. `decode` gives it (proofs/RowTrees), so check and machine need
-- look at nothing twice. nv is the number of variables. No rule of the language is stated here.
use Rattle.std.specs.Prelude.{ℕ, zero, suc, ◌+◌, ◌*◌, Bool, true, false, List, leb, ltb, eqb, length}
use Rattle.std.proofs.Math.Option.{Option, none, some}
use Rattle.syntax.specs.Script.{Place, Term, Terms, number, reading, copy, move, borrow_shared, borrow_exclusive, box, declare, assign, below, block, choice, sum, last, more}
use Rattle.syntax.specs.Kinds.{Kind, k_number, k_reading, k_copy, k_move, k_shared, k_exclusive, k_box, k_let, k_assign, k_below, k_block, k_choice, k_sum, newest, kind_of}
use Rattle.syntax.specs.Reader.{branch}
use Rattle.syntax.specs.RowParts.{field_at}

-- The place in fields k and k + 1 of row i.
abbrev pub place_at : List ℕ → ℕ → ℕ → Place
place_at rows i k = record { root = field_at rows i k; follows = field_at rows i (k + 1) }

-- What stands there, and the row after it.
abbrev pub RowTree : Type 0 → Type 0
RowTree A = Option (A × ℕ)

abbrev pub IsTree : {A : Type 0} → RowTree A → Type 0
IsTree none = ⊥
IsTree (some r) = Unit {0}

abbrev pub only_if : {A : Type 0} → Bool → RowTree A → RowTree A
only_if true d = d
only_if false d = none

abbrev pub around : {A B : Type 0} → (A → B) → RowTree A → RowTree B
around f none = none
around f (some r) = some (f r.0, r.1)

abbrev pub before : RowTree Term → (ℕ → RowTree Terms) → RowTree Terms
before none rest = none
before (some r) rest = around (more r.0) (rest r.1)

-- A term from row i on and n after it.
unfoldable pub several_at : (ℕ → RowTree Term) → ℕ → ℕ → RowTree Terms
several_at term zero i = around last (term i)
several_at term (suc n) i = before (term i) (several_at term n)

-- n terms, one at least.
unfoldable pub terms_at : (ℕ → RowTree Term) → ℕ → ℕ → RowTree Terms
terms_at term zero i = none
terms_at term (suc n) i = several_at term n i

-- What is left of a block: n terms from row i on.
abbrev pub IsRest : (ℕ → RowTree Term) → ℕ → ℕ → Type 0
IsRest term zero i = Unit {0}
IsRest term (suc n) i = IsTree (several_at term n i)

-- A block from row i on: its number and its terms.
abbrev pub block_at : (ℕ → RowTree Term) → List ℕ → ℕ → RowTree (ℕ × Terms)
block_at term rows i = only_if (eqb (field_at rows i 0) 11) (around branch (term i))

-- Two of them, the second after the first.
abbrev pub then_block : RowTree (ℕ × Terms) → (ℕ → RowTree (ℕ × Terms)) → RowTree ((ℕ × Terms) × (ℕ × Terms))
then_block none rest = none
then_block (some r) rest = around (λ b. (r.0, b)) (rest r.1)

-- The choice with these two blocks.
abbrev pub choice_of : ℕ → Place → (ℕ × Terms) × (ℕ × Terms) → Term
choice_of i p b = choice i p b.0.0 b.0.1 b.1.0 b.1.1

-- A term that is one row, where a test of the row is met.
abbrev leaf : Bool → Term → ℕ → RowTree Term
leaf b t i = only_if b (some (t, i + 1))

-- The term of a kind; `term` gives the inner terms.
unfoldable pub kind_at : Option Kind → ℕ → (ℕ → RowTree Term) → List ℕ → ℕ → RowTree Term
kind_at none nv term rows i = none
kind_at (some k_number) nv term rows i = leaf true (number i (field_at rows i 1)) i
kind_at (some k_reading) nv term rows i = leaf (ltb (field_at rows i 1) 8) (reading i (field_at rows i 1)) i
kind_at (some k_copy) nv term rows i = leaf (ltb (field_at rows i 1) nv) (copy i (place_at rows i 1)) i
kind_at (some k_move) nv term rows i = leaf (ltb (field_at rows i 1) nv) (move i (place_at rows i 1)) i
kind_at (some k_shared) nv term rows i = leaf (ltb (field_at rows i 1) nv) (borrow_shared i (place_at rows i 1)) i
kind_at (some k_exclusive) nv term rows i = leaf (ltb (field_at rows i 1) nv) (borrow_exclusive i (place_at rows i 1)) i
kind_at (some k_box) nv term rows i = around (box i) (term (i + 1))
kind_at (some k_let) nv term rows i = only_if (ltb (field_at rows i 1) nv) (around (declare i (field_at rows i 1)) (term (i + 1)))
kind_at (some k_assign) nv term rows i = only_if (ltb (field_at rows i 1) nv) (around (assign i (place_at rows i 1)) (term (i + 1)))
kind_at (some k_below) nv term rows i = only_if (ltb (field_at rows i 1) nv) (leaf (ltb (field_at rows i 3) nv) (below i (place_at rows i 1) (place_at rows i 3)) i)
kind_at (some k_block) nv term rows i = around (block i) (terms_at term (field_at rows i 1) (i + 1))
kind_at (some k_choice) nv term rows i = only_if (ltb (field_at rows i 1) nv) (around (choice_of i (place_at rows i 1)) (then_block (block_at term rows (i + 1)) (block_at term rows)))
kind_at (some k_sum) nv term rows i = only_if (ltb (field_at rows i 1) nv) (leaf (ltb (field_at rows i 3) nv) (sum i (place_at rows i 1) (place_at rows i 3)) i)

-- The term at row i, with the levels that are left.
unfoldable pub tree_at : ℕ → ℕ → List ℕ → ℕ → RowTree Term
tree_at nv zero rows i = none
tree_at nv (suc levels) rows i = only_if (leb (5 * i + 5) (length rows)) (kind_at (kind_of newest (field_at rows i 0)) nv (tree_at nv levels rows) rows i)
