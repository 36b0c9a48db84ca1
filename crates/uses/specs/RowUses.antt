-- What rows name, and the terms that have not finished where the code stands (LANGUAGE 3.32, 3.33). No rule of the language is stated here.
use Rattle.std.specs.Prelude.{ℕ, zero, suc, ◌+◌, ◌*◌, ◌-◌, ◌≤◌, ◌<◌, ◌≡◌, Bool, true, List, [], ◌∷◌, length, get_or}
use Rattle.std.proofs.Math.Option.{Option, none, some}
use Rattle.syntax.specs.Result.{pick}
use Rattle.syntax.specs.Kinds.{Kind, k_number, k_reading, k_copy, k_move, k_shared, k_exclusive, k_box, k_let, k_assign, k_below, k_block, k_choice, k_sum, newest, kind_of}
use Rattle.syntax.specs.RowParts.{field_at}
use Rattle.statics.specs.Uses.{Unfinished, naming, names, named_later}
use Rattle.variables.specs.Masks.{has}
use Rattle.bars.specs.Leading.{named_from}
use Rattle.uses.specs.declared.script.Script.{Script}
use Rattle.uses.specs.declared.script.Around.{Around}

-- The variables that a term of the kind names, of those in fields 1 and 3 of its row.
unfoldable pub names_of : Option Kind → ℕ → ℕ → List ℕ
names_of none x y = []
names_of (some k_number) x y = []
names_of (some k_reading) x y = []
names_of (some k_copy) x y = x ∷ []
names_of (some k_move) x y = x ∷ []
names_of (some k_shared) x y = x ∷ []
names_of (some k_exclusive) x y = x ∷ []
names_of (some k_box) x y = []
names_of (some k_let) x y = x ∷ []
names_of (some k_assign) x y = x ∷ []
names_of (some k_below) x y = x ∷ y ∷ []
names_of (some k_block) x y = []
names_of (some k_choice) x y = x ∷ []
names_of (some k_sum) x y = x ∷ y ∷ []

abbrev pub row_names : List ℕ → ℕ → List ℕ
row_names rows i = names_of (kind_of newest (field_at rows i 0)) (field_at rows i 1) (field_at rows i 3)

-- What the n rows from i on name, row by row.
unfoldable pub namings : List ℕ → ℕ → ℕ → Unfinished
namings rows i zero = []
namings rows i (suc n) = row_names rows i ∷ namings rows (suc i) n

-- For each variable one more than the last row that names it; 0 where none does.
pub record UsesFor (nv : ℕ) (rows uses : List ℕ) : Type 0 where
  pub long : length uses ≡ nv
  pub above : (x r : ℕ) → x < nv → names (row_names rows r) x ≡ true → r < get_or uses x 0
  pub names_it : (x r : ℕ) → x < nv → get_or uses x 0 ≡ suc r → names (row_names rows r) x ≡ true

-- What is asked of the first rows, as many as there are terms: each has room, and they name variables of the set; the others name nothing.
pub record NamesBelow (nv : ℕ) (rows : List ℕ) (terms : ℕ) : Type 0 where
  pub room : 5 * terms ≤ length rows
  pub below : (r x : ℕ) → names (row_names rows r) x ≡ true → x < nv
  pub nothing : (r : ℕ) → terms ≤ r → row_names rows r ≡ []

-- The numbers below n with the property.
unfoldable pub those : (ℕ → Bool) → ℕ → List ℕ
those f zero = []
those f (suc n) = pick (f n) (n ∷ those f n) (those f n)

-- The terms that have not finished once those before row `next` have, as one that names all that they name: what rows from there on name, and what
-- the terms around name.
unfoldable pub later_at : ℕ → List ℕ → (ℕ → Bool) → ℕ → Unfinished
later_at nv uses named next = naming (those (named_from uses next named) nv)

-- The same inside n terms that stand around one another from row i on: the innermost finishes first.
unfoldable pub later_in : List ℕ → ℕ → ℕ → Unfinished → Unfinished
later_in rows i zero ns = ns
later_in rows i (suc n) ns = row_names rows (i + n) ∷ later_in rows i n ns

-- What a set and the n rows from i on name.
abbrev pub named_with : List ℕ → ℕ → ℕ → (ℕ → Bool) → ℕ → Bool
named_with rows i n named x = pick (named x) true (named_later (namings rows i n) x)

-- What the terms around name.
abbrev pub named_around : Script → Around → ℕ → Bool
named_around s a = named_with s.rows.now a.start (a.end - a.start) (has a.named)

-- What has not finished once the term inside those around has, which ends before row `next`.
abbrev pub later_of : Script → Around → ℕ → Unfinished
later_of s a next = later_in s.rows.now a.start (a.end - a.start) (later_at s.variables s.uses.now (has a.named) next)
