-- The places in a row as the code has them, and rows of terms around an inner term. No rule of the language is stated here.
use Rattle.std.specs.Prelude.{ℕ, ◌+◌, ◌*◌, ◌-◌, ◌≤◌, ◌<◌, ◌≡◌, true, List, length}
use Rattle.syntax.specs.Kinds.{wraps_of}
use Rattle.syntax.specs.RowParts.{field_at}
use Rattle.variables.specs.declared.table.Place as table
use Rattle.uses.specs.declared.script.Script.{Script}
use Rattle.uses.specs.declared.script.Around.{Around}

-- The place in fields k and k + 1 of row i, as the code has it.
abbrev pub row_place : List ℕ → ℕ → ℕ → table.Place
row_place rows i k = record { root = field_at rows i k; follows = field_at rows i (k + 1) }

-- At row i stands a term around one inner term.
pub record Wraps (nv : ℕ) (rows : List ℕ) (i : ℕ) : Type 0 where
  pub room : 5 * i + 5 ≤ length rows
  pub kind : wraps_of (field_at rows i 0) ≡ true
  pub number : (field_at rows i 0 ≡ 7 → ⊥) → field_at rows i 1 < nv

-- So at each of the n rows from i on.
abbrev pub AllWrap : ℕ → List ℕ → ℕ → ℕ → Type 0
AllWrap nv rows i n = (k : ℕ) → k < n → Wraps nv rows (i + k)

-- So at each row of those around.
abbrev pub AllAround : Script → Around → Type 0
AllAround s a = AllWrap s.variables s.rows.now a.start (a.end - a.start)
