-- `machine::run_unchecked` meets its contract. Assumes nothing.
use mathlib.Core.Path.{sym}
use Rattle.machine.proofs.FitLaws.{unfit, all_fit}
use Rattle.machine.proofs.ScriptLaws.{unfit_refused, rows_refused}
use Rattle.machine.proofs.run_unchecked.Goals as goal

pub returns-in-Err : goal.returns-in-Err
returns-in-Err c = unfit_refused _ _ _ _ _ (unfit _ _ _ _ _ c.in-Err.ensures)

pub run_judged-requires : goal.run_judged-requires
run_judged-requires c =
    let fit = all_fit _ c.args.rows.now c.args.readings.now c.args.store.now _ c.in_default.ensures in
    record { terms = _; judged = sym c.in-Ok.ensures; eight = fit.eight; size = fit.size }

pub returns-in-Err-judge_rows : goal.returns-in-Err-judge_rows
returns-in-Err-judge_rows c =
    let fit = all_fit _ c.args.rows.now c.args.readings.now c.args.store.now _ c.in_default.ensures in
    rows_refused _ _ _ _ fit.ranges fit.long fit.size fit.eight _ c.in-Err-judge_rows.ensures
