-- How deep terms, choices and blocks may still go: the measure is four times the levels left, and more by one for an innermost term,
-- by two for a term and by three for a block. The block's loop has the invariant `Going`, the term's two loops `Inwards` and `Outwards`.
use Rattle.syntax.specs.RowParts.{field_at}
use Rattle.block_runner.proofs.WrapLaws.{Inwards, Outwards}
use Rattle.block_runner.proofs.BlockRunLaws.{Going}
use Prim.Native.Nat.{◌+◌, ◌*◌, ◌-◌}
use Rattle.block_runner.proofs.terms.+terms.Given as goal

abbrev pub decreases-run_choice : goal.decreases-run_choice
decreases-run_choice l = l.levels * 4

abbrev pub decreases-run_inmost : goal.decreases-run_inmost
decreases-run_inmost l = l.levels * 4 + 1

abbrev pub decreases-run_term : goal.decreases-run_term
decreases-run_term l = l.levels * 4 + 2

abbrev pub decreases-run_block : goal.decreases-run_block
decreases-run_block l = l.levels * 4 + 3

abbrev pub invariant-run_term-loop-around : goal.invariant-run_term-loop-around
invariant-run_term-loop-around l = Inwards l.script.limits l.script.rows.now l.i l.levels l.script.readings.now l.store l.opened l.count l.taken l.around

abbrev pub decreases-run_term-loop-around : goal.decreases-run_term-loop-around
decreases-run_term-loop-around l = l.levels - l.around

abbrev pub invariant-run_term-loop-k : goal.invariant-run_term-loop-k
invariant-run_term-loop-k l = Outwards l.script.limits l.script.rows.now l.i l.fn.levels l.script.readings.now l.fn.count l.fn.taken l.initial.store l.initial.opened l.initial.k l.initial.ran l.store l.opened l.k l.ran

abbrev pub invariant-run_block-loop : goal.invariant-run_block-loop
invariant-run_block-loop l = Going l.script.limits l.script.rows.now l.fn.block l.levels l.script.readings.now l.initial.store l.initial.opened l.fn.count l.fn.taken l.store l.opened (field_at l.script.rows.now l.block 1 - l.counter) l.at
