-- `room::run` meets its contract. Assumes nothing.
use mathlib.Core.Path.{◌≡◌, sym, ap, ◌∙◌}
use borrow.Author.Rules.{rules}
use Rattle.std.specs.Prelude.{Result, Err}
use Rattle.syntax.specs.declared.refusals.Refusal.{Refusal}
use Rattle.dynamics.specs.Answers.{run_fits}
use Rattle.ownership.proofs.CheckLaws.{under_words}
use Rattle.machine.specs.declared.Ran.{Ran}
use Rattle.machine.specs.ScriptParts.{fit_of}
use Rattle.machine.proofs.FitLaws.{fit_says}
use Rattle.room.specs.Running.{told_run}
use Rattle.room.proofs.RunLaws.{run_unfit, check_refuses}
use Rattle.room.proofs.RunSafe.{safe_run}
use Rattle.room.proofs.run.Goals as goal

pub returns-in_err-fit : goal.returns-in_err-fit
unfolding told_run fit_of run_fits
returns-in_err-fit c =
    let q : c.from_residual.result ≡ Err c.in_err-fit.field-0.0 = search rules in
    let e = ap (λ (r : Result Ran Refusal). (told_run r, c.args.store.now)) q ∙ run_unfit _ c.args.rows.now c.args.readings.now c.args.store.now _ c.in_err-fit.ensures in
    record { answered = e; safe = safe_run _ _ _ _ (under_words c.args.rows.now c.type_inv.rows) _ _ e }

pub returns-in_err-check : goal.returns-in_err-check
unfolding told_run fit_of run_fits
returns-in_err-check c =
    let q : c.from_residual-in_err-check.result ≡ Err c.in_err-check.field-0.0 = search rules in
    let fit = fit_says _ c.args.rows.now c.args.readings.now c.args.store.now _ (sym c.in_ok-fit.ensures) in
    let e = ap (λ (r : Result Ran Refusal). (told_run r, c.args.store.now)) q ∙ sym (check_refuses _ _ c.args.readings.now _ fit.eight fit.size _ (sym c.in_err-check.ensures)) in
    record { answered = e; safe = safe_run _ _ _ _ (under_words c.args.rows.now c.type_inv.rows) _ _ e }

pub run_accepted-requires : goal.run_accepted-requires
unfolding fit_of run_fits
run_accepted-requires c =
    let fit = fit_says _ c.args.rows.now c.args.readings.now c.args.store.now _ (sym c.in_ok-fit.ensures) in
    record { terms = _; accepted = sym c.in_ok-check.ensures; eight = fit.eight; size = fit.size }

pub returns : goal.returns
returns c = record { answered = c.run_accepted.ensures; safe = safe_run _ _ _ _ (under_words c.args.rows.now c.type_inv.rows) _ _ c.run_accepted.ensures }
