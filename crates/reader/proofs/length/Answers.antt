-- `reader::length` meets its contract, from what judging the rows and counting ensure. Assumes nothing.
use mathlib.Core.Path.{◌∙◌}
use Rattle.std.proofs.lemmas.Result.{err_from_is_err_and}
use Rattle.row_judge.proofs.RowSpans.{told_err}
use Rattle.reader.proofs.OutputAnswers.{judged, length_refused, length_told}
use Rattle.reader.proofs.length.Goals as goal

pub returns-in_err-terms : goal.returns-in_err-terms
returns-in_err-terms c =
    let p = err_from_is_err_and c.from_residual.result c.from_residual.ensures.1 in
    told_err _ _ _ _ p.1 p.2 ∙ length_refused _ _ _ _ c.in_err-terms.ensures

pub script_bytes-requires : goal.script_bytes-requires
script_bytes-requires c = (judged _ _ _ (λ i. (c.type_inv.rows i).fits) _ c.in_ok-terms.ensures).room

pub returns : goal.returns
returns c = length_told _ _ _ _ _ (judged _ _ _ (λ i. (c.type_inv.rows i).fits) _ c.in_ok-terms.ensures) (c.script_bytes.ensures c.args.version)
