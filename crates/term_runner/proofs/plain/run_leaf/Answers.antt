-- `term_runner::plain::run_leaf` meets its contract. Assumes nothing.
use Rattle.term_runner.proofs.RowLaws.{leaf_known, leaf_only, reading_leaf, copy_leaf, move_leaf, pair_roots, borrow_leaf, leaf_number_law, leaf_reading_law, leaf_copy_law, leaf_move_law, leaf_two, leaf_borrow}
use Rattle.syntax.specs.Parts.{IsKind}
use Rattle.syntax.specs.KindNumbers.{number_in}
use native.Mathlib.Omega.{arith}
use mathlib.Core.Path.{sym, ap, subst, ◌∙◌}
use Rattle.term_runner.proofs.plain.run_leaf.Goals as goal

pub unreachable-requires : goal.unreachable-requires
unreachable-requires c = leaf_known _ _ _ c.requires.leaf (λ h. c.in_default.ensures (subst IsKind (sym c.field_at.ensures) h))

pub unreachable-requires-in-Box : goal.unreachable-requires-in-Box
unreachable-requires-in-Box c = leaf_only _ _ _ c.requires.leaf _ (c.in-Ok.ensures ∙ c.field_at.ensures) c.in-Box.is

pub reading_bits-requires : goal.reading_bits-requires
reading_bits-requires c = omega (arith, c.requires.eight, (reading_leaf _ _ _ c.requires.leaf (sym (c.in-Ok.ensures ∙ c.field_at.ensures) ∙ ap number_in c.in-Reading.is)).0)

pub run_copy-requires : goal.run_copy-requires
run_copy-requires c = (c.requires.tidy, omega (arith, (copy_leaf _ _ _ c.requires.leaf (sym (c.in-Ok.ensures ∙ c.field_at.ensures) ∙ ap number_in c.in-Copy.is)).0))

pub run_move-requires : goal.run_move-requires
run_move-requires c = (c.requires.tidy, omega (arith, (move_leaf _ _ _ c.requires.leaf (sym (c.in-Ok.ensures ∙ c.field_at.ensures) ∙ ap number_in c.in-Move.is)).0))

pub run_borrow-requires : goal.run_borrow-requires
run_borrow-requires c = (c.requires.tidy, omega (arith, (borrow_leaf _ _ _ c.requires.leaf _ (c.in-Ok.ensures ∙ c.field_at.ensures) c.in-Shared.is).0))

pub run_pair-requires : goal.run_pair-requires
run_pair-requires c = let r = pair_roots _ _ _ c.requires.leaf _ (c.in-Ok.ensures ∙ c.field_at.ensures) c.in-Below.is in (c.requires.tidy, omega (arith, r), omega (arith, r))

pub returns-in-Number : goal.returns-in-Number
returns-in-Number c = leaf_number_law _ _ _ c.requires.leaf _ _ (sym (c.in-Ok.ensures ∙ c.field_at.ensures) ∙ ap number_in c.in-Number.is) c.requires.tidy _ c.field_at-in-Number.ensures

pub returns-in-Reading : goal.returns-in-Reading
returns-in-Reading c = leaf_reading_law _ _ _ c.requires.leaf _ _ (sym (c.in-Ok.ensures ∙ c.field_at.ensures) ∙ ap number_in c.in-Reading.is) c.requires.tidy _ _ c.index_at.ensures c.reading_bits.ensures

pub returns-in-Copy : goal.returns-in-Copy
returns-in-Copy c = leaf_copy_law _ _ _ c.requires.leaf _ _ _ _ c.place_at.ensures (sym (c.in-Ok.ensures ∙ c.field_at.ensures) ∙ ap number_in c.in-Copy.is) c.requires.tidy _ c.run_copy.ensures

pub returns-in-Move : goal.returns-in-Move
returns-in-Move c = leaf_move_law _ _ _ c.requires.leaf _ _ _ _ c.place_at-in-Move.ensures (sym (c.in-Ok.ensures ∙ c.field_at.ensures) ∙ ap number_in c.in-Move.is) _ _ c.run_move.ensures

pub returns-in-Shared : goal.returns-in-Shared
returns-in-Shared c = leaf_borrow _ _ _ c.requires.leaf _ _ _ _ c.place_at-in-Shared.ensures _ (c.in-Ok.ensures ∙ c.field_at.ensures) c.in-Shared.is c.requires.tidy _ c.run_borrow.ensures

pub returns-in-Below : goal.returns-in-Below
returns-in-Below c =
    leaf_two _ _ _ c.requires.leaf _ _ _ _ c.place_at-in-Below.ensures _ _ c.place_at-in-Below-2.ensures _ (c.in-Ok.ensures ∙ c.field_at.ensures) c.in-Below.is c.requires.tidy _ c.run_pair.ensures
