-- Rows that the reader accepts hold a term that the machine's code can run: the reader's promise about rows.
use Prim.Native.Nat.{ℕ, ◌≤◌, ◌<◌}
use mathlib.Core.Path.{◌≡◌, ap, ◌∙◌}
use mathlib.Core.Option.{some}
use mathlib.Core.List.{List}
use lib.ListN.{length, get_or}
use Rattle.syntax.specs.Result.{ok}
use Rattle.syntax.specs.Limits.{Limits, row_numbers}
use Rattle.syntax.specs.Script.{Term}
use Rattle.syntax.specs.Kinds.{byte_of}
use Rattle.syntax.specs.Reader.{decode}
use Rattle.syntax.specs.Measures.{size, boxes_in}
use Rattle.syntax.specs.RowParts.{field_at}
use Rattle.syntax.specs.RowTrees.{tree_at}
use Rattle.syntax.specs.Within.{Under}
use Rattle.syntax.proofs.View.{row, stands}
use Rattle.syntax.proofs.RoundTrip.{decoded}
use Rattle.syntax.proofs.RowTrees.{tree_stands}
use Rattle.syntax.proofs.Lists.{under_all}

-- What the machine's code may rely on.
pub record Runnable (set : Limits) (rows : List ℕ) (t : Term) : Type 0 where
  pub is : tree_at set.variables set.levels rows 0 ≡ some (t, size t)
  pub cells : boxes_in t ≤ set.boxes
  pub root : field_at rows 0 0 ≡ 11

pub judged : (set : Limits) (rows : List ℕ) (t : Term) → ((j : ℕ) → get_or rows j 0 < 4294967296) → length rows ≡ row_numbers set → decode set rows ≡ ok t → Runnable set rows t
unfolding byte_of
judged set rows t w e h =
    let u : Under 4294967296 rows = under_all 4294967296 rows w in
    let q = (decoded set rows t u e h).1 in
    record {
      is = tree_stands set rows t u e h;
      cells = q.boxes;
      root = (row rows 0 t (stands set rows t u e h)).kind ∙ ap byte_of q.outermost;
    }
