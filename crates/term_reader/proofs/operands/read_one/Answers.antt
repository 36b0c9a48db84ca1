-- `term_reader::operands::read_one` meets its contract. Assumes nothing.
use mathlib.Core.Path.{refl}
use Rattle.std.proofs.lemmas.Result.{err_from_is_err_and}
use Rattle.syntax.specs.Layout.{zeros}
use Rattle.syntax.specs.ByteParts.{on_number, judged_fields, values_at}
use Rattle.syntax.proofs.NumberLaws.{number_passed, number_says}
use Rattle.term_reader.proofs.operands.read_one.Goals as goal

pub returns-in_err-value : goal.returns-in_err-value
unfolding judged_fields
returns-in_err-value c =
    let p = err_from_is_err_and c.from_residual.result c.from_residual.ensures.1 in
    rw (p.1, p.2) (number_passed _ _ _ _ _ c.in_err-value.ensures, tt)

pub returns : goal.returns
unfolding judged_fields on_number values_at zeros
returns c = let q = number_says _ _ _ _ c.in_ok-value.ensures in rw (q.0, q.1) (refl, refl)
