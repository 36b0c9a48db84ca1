-- `room::call` meets its contract. Assumes nothing.
use lib.IntN.{ℤ}
use native.Mathlib.Omega.{arith}
use mathlib.Core.Path.{◌≡◌, sym, ap, ◌∙◌}
use mir.Facts.{to_z-of_z}
use mir.Syntax.{w32}
use mir.Val.{SFits}
use borrow.Author.Rules.{rules}
use Rattle.std.specs.Prelude.{Result, Err}
use Rattle.syntax.specs.declared.refusals.Refusal.{Refusal}
use Rattle.syntax.specs.Kinds.{newest}
use Rattle.syntax.proofs.Lists.{under_bytes}
use Rattle.reader.proofs.Undo.{write_after_read}
use Rattle.room.specs.declared.Called.{Called}
use Rattle.room.specs.Running.{told_run}
use Rattle.room.specs.Calling.{called, told_call, with_terms}
use Rattle.room.proofs.RunLaws.{check_refuses}
use Rattle.room.proofs.CallLaws.{fits_say, call_unfit, call_unread, call_read}
use Rattle.room.proofs.CallSafe.{safe_call}
use Rattle.room.proofs.call.Goals as goal

pub returns-in_err-fit : goal.returns-in_err-fit
unfolding told_call
returns-in_err-fit c =
    let q : c.from_residual.result ≡ Err c.in_err-fit.field-0.0 = search rules in
    let e = ap (λ (r : Result Called Refusal). (told_call r, (c.args.rows.now, c.args.store.now))) q ∙ call_unfit _ _ _ _ _ _ c.in_err-fit.ensures in
    record { answered = e; safe = safe_call _ _ _ _ _ (under_bytes c.args.script.now c.type_inv.script) _ _ _ e }

pub returns-in_err-read : goal.returns-in_err-read
unfolding told_call newest
returns-in_err-read c =
    let q : c.from_residual-in_err-read.result ≡ Err c.in_err-read.field-0.0 = search rules in
    let e = ap (λ (r : Result Called Refusal). (told_call r, (c.read.new.rows, c.args.store.now))) q ∙ call_unread _ _ _ _ _ _ c.in_ok-fit.ensures _ _ c.in_err-read.ensures in
    record { answered = e; safe = safe_call _ _ _ _ _ (under_bytes c.args.script.now c.type_inv.script) _ _ _ e }

pub check_judged-requires : goal.check_judged-requires
unfolding newest
check_judged-requires c =
    let u = under_bytes c.args.script.now c.type_inv.script in
    (write_after_read _ newest c.args.script.now c.args.rows.now _ _ _ c.args.script.now u (sym c.in_ok-read.ensures) (omega arith)).0

pub returns-in_err-check_judged : goal.returns-in_err-check_judged
unfolding told_call with_terms newest
returns-in_err-check_judged c =
    let q : c.from_residual-in_err-check_judged.result ≡ Err c.in_err-check_judged.field-0.0 = search rules in
    let fit = (fits_say _ c.args.script.now c.args.readings.now c.args.rows.now c.args.store.now _ (sym c.in_ok-fit.ensures)).1 in
    let ran = sym (check_refuses _ c.read.new.rows c.args.readings.now _ fit.eight fit.size _ (sym c.in_err-check_judged.ensures)) in
    let e = ap (λ (r : Result Called Refusal). (told_call r, (c.read.new.rows, c.args.store.now))) q ∙ call_read _ _ _ _ _ _ c.in_ok-fit.ensures _ _ _ c.in_ok-read.ensures _ ran in
    record { answered = e; safe = safe_call _ _ _ _ _ (under_bytes c.args.script.now c.type_inv.script) _ _ _ e }

pub run_accepted-ran-requires : goal.run_accepted-ran-requires
run_accepted-ran-requires c =
    let fit = (fits_say _ c.args.script.now c.args.readings.now c.args.rows.now c.args.store.now _ (sym c.in_ok-fit.ensures)).1 in
    record { terms = _; accepted = sym c.in_ok-check_judged.ensures; eight = fit.eight; size = fit.size }

pub returns : goal.returns
unfolding told_call told_run with_terms newest
returns c =
    let h : SFits w32 c.run_accepted-ran.result.answer = search rules in
    let e = ap (λ (a : ℤ). (called c.in_ok-read.read.terms a c.run_accepted-ran.result.cells, (c.read.new.rows, c.run_accepted-ran.new.store))) (to_z-of_z h) ∙ (call_read _ _ _ _ _ _ c.in_ok-fit.ensures _ _ _ c.in_ok-read.ensures _ c.run_accepted-ran.ensures) in
    record { answered = e; safe = safe_call _ _ _ _ _ (under_bytes c.args.script.now c.type_inv.script) _ _ _ e }
