-- `reader::read` meets its contract. Assumes nothing.
use native.Mathlib.Omega.{arith}
use mathlib.Core.Path.{refl, ◌∙◌}
use Rattle.std.proofs.lemmas.Result.{err_from_is_err_and}
use Rattle.syntax.specs.Limits.{row_numbers}
use Rattle.syntax.proofs.Ranges.{ranged}
use Rattle.syntax.proofs.Lists.{under_bytes}
use Rattle.reader.proofs.ReadLaws.{known_alike, fit_says, read_unfit, read_refused, read_room, read_fine}
use Rattle.reader.proofs.read.Goals as goal

pub returns-in_err-judge_lengths : goal.returns-in_err-judge_lengths
returns-in_err-judge_lengths c =
    let p = err_from_is_err_and c.from_residual.result c.from_residual.ensures.1 in
    rw (p.1, p.2) (read_unfit _ _ _ _ _ c.in_err-judge_lengths.ensures)

pub read_script-requires : goal.read_script-requires
read_script-requires c =
    let f = fit_says _ _ _ c.in_ok-judge_lengths.ensures in
    (f.1, (f.0, f.2))

pub overflow_mul-found : goal.overflow_mul-found
overflow_mul-found c =
    let f = fit_says _ _ _ c.in_ok-judge_lengths.ensures in
    let room = read_room _ _ _ _ f.0 f.1 f.2 _ _ c.in-Ok.ensures (under_bytes c.args.script.now c.type_inv.script) _ _ _ refl in
    omega (arith, room, (ranged _ f.0).terms)

pub clear_from-requires : goal.clear_from-requires
unfolding row_numbers
clear_from-requires c =
    let f = fit_says _ _ _ c.in_ok-judge_lengths.ensures in
    omega (arith, read_room _ _ _ _ f.0 f.1 f.2 _ _ c.in-Ok.ensures (under_bytes c.args.script.now c.type_inv.script) _ _ _ refl, c.read_script.auto.rows, f.2)

pub returns-in-Ok : goal.returns-in-Ok
returns-in-Ok c =
    let f = fit_says _ _ _ c.in_ok-judge_lengths.ensures in
    read_fine _ _ _ _ f.0 f.1 f.2 _ _ c.in-Ok.ensures (under_bytes c.args.script.now c.type_inv.script) _ _ _ refl _ c.clear_from.ensures ∙ known_alike _ _ _ _ _ c.newest_known-known.ensures.1

pub returns-in-Err : goal.returns-in-Err
returns-in-Err c =
    let f = fit_says _ _ _ c.in_ok-judge_lengths.ensures in
    read_refused _ _ _ _ f.0 f.1 f.2 _ _ c.in-Err.ensures _ _ refl (c.read_script.auto.rows ∙ f.2) _ c.clear_from-in-Err.ensures ∙ known_alike _ _ _ _ _ c.newest_known-known.ensures.1
