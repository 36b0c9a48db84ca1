-- What `check` answers on every input (LANGUAGE 6.5).
use Rattle.std.specs.Prelude.{ℕ, List}
use Rattle.syntax.specs.Result.{Result, ok, Refusal, ◌>>=◌}
use Rattle.syntax.specs.Limits.{Limits}
use Rattle.syntax.specs.Measures.{size}
use Rattle.syntax.specs.Answers.{rows_tree}
use Rattle.statics.specs.Judge.{judge_script}

-- `check` (LANGUAGE 6.5): 74, 2, then 12 to 19, then 30 to 43 (5.7); for an accepted script (3.30) its number of terms.
unfoldable pub check_of : Limits → List ℕ → Result Refusal ℕ
check_of l rows =
    rows_tree l rows >>= λ t.
    judge_script l.variables t >>= λ _.
    ok (size t)
