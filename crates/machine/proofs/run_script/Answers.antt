-- `machine::run_script` meets its contract. Assumes nothing.
use Rattle.store.proofs.Again.{again}
use Rattle.machine.proofs.ScriptLaws.{run_ranged, script_begins, script_closes, script_faults, script_wrong, script_answers}
use borrow.Author.Rules.{rules}
use native.Mathlib.Omega.{arith}
use mathlib.Core.Path.{◌∙◌}
use mir.Facts.{to_z-of_z}
use mir.Val.{SFits}
use mir.Syntax.{w32}
use Rattle.machine.proofs.run_script.Goals as goal

pub overflow_sub-deeper : goal.overflow_sub-deeper
overflow_sub-deeper c = omega (arith, (run_ranged _ _ _ _ c.requires.0).levels)

pub run_block-inner-requires : goal.run_block-inner-requires
run_block-inner-requires c = script_begins _ _ _ _ c.requires.0 (λ j. omega (arith, c.type_inv.rows j)) _ c.clear.ensures _ c.requires.1

pub close_block-requires : goal.close_block-requires
close_block-requires c =
    script_closes _ _ _ _ c.requires.0 (λ j. omega (arith, c.type_inv.rows j)) _ c.clear.ensures _ c.requires.1 _ _ _ c.run_block-inner.ensures c.run_block-inner.auto.opened

pub returns-in_err-ran : goal.returns-in_err-ran
returns-in_err-ran c =
    rw (again c.in_err-ran.field-0.0 c.from_residual.result c.from_residual.ensures)
    (script_faults _ _ _ _ c.requires.0 (λ j. omega (arith, c.type_inv.rows j)) _ c.clear.ensures _ c.requires.1 _ _ _ c.run_block-inner.ensures _ _ c.in_err-ran.ensures)

pub returns-in_default : goal.returns-in_default
returns-in_default c =
    script_wrong _ _ _ _ c.requires.0 (λ j. omega (arith, c.type_inv.rows j)) _ c.clear.ensures _ c.requires.1 _ _ _ c.run_block-inner.ensures _ _ c.in_ok-ran.ensures c.in_default.not-Number

pub returns-in-Number : goal.returns-in-Number
returns-in-Number c =
    let h : SFits w32 c.number_of.result = search rules in
    script_answers _ _ _ _ c.requires.0 (λ j. omega (arith, c.type_inv.rows j)) _ c.clear.ensures _ c.requires.1 _ _ _ c.run_block-inner.ensures _ _ c.in_ok-ran.ensures _ c.in-Number.is _ (to_z-of_z h ∙ c.number_of.ensures)
