-- `reader::judge_given` meets its contract: the outermost term, and then what stands after it. Assumes nothing.
use native.Mathlib.Omega.{arith}
use mathlib.Core.Path.{sym, ◌∙◌}
use Rattle.std.proofs.lemmas.Result.{err_from_is_err_and}
use Rattle.syntax.specs.Limits.{row_numbers}
use Rattle.syntax.proofs.Ranges.{ranged}
use Rattle.row_judge.proofs.RowSpans.{told_err}
use Rattle.row_judge.proofs.DueBlock.{due_refused}
use Rattle.reader.proofs.RowsJudged.{judged_refused, block_refused, judged_fit, judged_left, judged_count}
use Rattle.reader.proofs.judge_given.Goals as goal

pub returns-then-no_block : goal.returns-then-no_block
returns-then-no_block c = judged_refused _ _ _ c.requires.1 _ (due_refused _ _ _ _ 0 0 c.requires.1 (omega arith) (sym c.no_block.ensures ∙ c.if-no_block.true))

pub returns-in_err-judge_block : goal.returns-in_err-judge_block
returns-in_err-judge_block c =
    let p = err_from_is_err_and c.from_residual.result c.from_residual.ensures.1 in
    told_err _ _ _ _ p.1 p.2 ∙ block_refused _ _ _ c.requires.1 (sym c.no_block.ensures ∙ c.if-no_block.false) _ c.in_err-judge_block.ensures

pub overflow_mul-terms : goal.overflow_mul-terms
unfolding row_numbers
overflow_mul-terms c =
    omega (arith, judged_fit _ _ _ c.requires.1 (λ j. (c.type_inv.rows j).fits) (sym c.no_block.ensures ∙ c.if-no_block.false) _ _ c.in_ok-judge_block.ensures, (ranged _ c.requires.0).terms)

pub first_used-used-requires : goal.first_used-used-requires
first_used-used-requires c =
    omega (arith, judged_fit _ _ _ c.requires.1 (λ j. (c.type_inv.rows j).fits) (sym c.no_block.ensures ∙ c.if-no_block.false) _ _ c.in_ok-judge_block.ensures, c.requires.1)

pub returns-then-used-rows : goal.returns-then-used-rows
returns-then-used-rows c =
    judged_left _ _ _ c.requires.1 (λ j. (c.type_inv.rows j).fits) (sym c.no_block.ensures ∙ c.if-no_block.false) _ _ c.in_ok-judge_block.ensures _ c.first_used-used.ensures (omega (arith, c.if-used-rows.true, c.requires.1))

pub returns : goal.returns
returns c =
    judged_count _ _ _ c.requires.1 (λ j. (c.type_inv.rows j).fits) (sym c.no_block.ensures ∙ c.if-no_block.false) _ _ c.in_ok-judge_block.ensures _ c.first_used-used.ensures (omega (arith, c.if-used-rows.false, c.requires.1))
