-- `ownership::check` meets its contract. Assumes nothing.
use Prim.Native.Nat.{ℕ}
use mathlib.Core.Path.{sym, ap, ◌∙◌}
use Rattle.syntax.specs.Refusals.{told}
use Rattle.std.proofs.Common.{Err}
use Rattle.std.proofs.lemmas.Result.{err_from_is_err_and}
use Rattle.ownership.proofs.CheckLaws.{rows_refused}
use Rattle.ownership.proofs.check.Goals as goal

pub check_judged-requires : goal.check_judged-requires
check_judged-requires c = sym (rw c.in_ok-terms.was at c.judge_rows.ensures)

pub returns-in_err-terms : goal.returns-in_err-terms
returns-in_err-terms c =
    let p = err_from_is_err_and c.from_residual.result c.from_residual.ensures.1 in
    ap (told (λ (n : ℕ). n)) (p.1 ∙ ap Err p.2) ∙ rows_refused _ _ _ (rw c.in_err-terms.was at c.judge_rows.ensures)

pub returns : goal.returns
returns c = c.check_judged.ensures
