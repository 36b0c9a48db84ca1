-- `term_judge::terms::judge_assign` meets its contract. Assumes nothing.
use native.Mathlib.Omega.{arith}
use mathlib.Core.Path.{ap, ◌∙◌}
use Rattle.variables.specs.declared.table.Place.{Place}
use Rattle.variables.specs.Verdicts.{answered}
use Rattle.variables.proofs.QuestionLaws.{left_with}
use Rattle.term_judge.proofs.AroundLaws.{last_wraps}
use Rattle.term_judge.proofs.WrittenLaws.{assign_refused, assign_fine}
use Rattle.term_judge.proofs.terms.judge_assign.Goals as goal

pub place_at-place-requires : goal.place_at-place-requires
place_at-place-requires c =
    (omega (arith, (last_wraps _ _ _ _ c.requires.2 c.requires.3).room), omega arith)

pub returns-in_err-judge_write : goal.returns-in_err-judge_write
returns-in_err-judge_write c =
    (λ ns later. ap (answered _ _) (left_with _ _ c.from_residual.ensures.1) ∙ assign_refused _ _ c.args.script.now.rows.now _ _ _ c.place_at-place.ensures ns _ (rw c.in_err-judge_write.was at (c.judge_write.ensures.0 c.args.around.now.end)), c.judge_write.ensures.1)

pub write_barred-barred-requires : goal.write_barred-barred-requires
write_barred-barred-requires c =
    (c.requires.3, c.judge_write.ensures.1, c.requires.1, omega (arith, c.index_of-root.ensures, ap (λ (p : Place). p.root) c.place_at-place.ensures, c.requires.4))

pub returns : goal.returns
returns c =
    (λ ns later. assign_fine _ _ c.args.script.now.rows.now _ _ _ c.place_at-place.ensures ns _ (rw c.in_ok-judge_write.was at (c.judge_write.ensures.0 c.args.around.now.end)) _ _ c.index_of-root.ensures (c.write_barred-barred.ensures ns later) _ (c.judge_written.ensures _ _), c.judge_write.ensures.1)
