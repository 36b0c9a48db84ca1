-- `reader::judge_lengths` meets its contract. Assumes nothing.
use mathlib.Core.Path.{sym, ◌∙◌}
use Rattle.reader.proofs.ReadLaws.{fit_set, fit_long, fit_rows, fit_all}
use Rattle.reader.proofs.judge_lengths.Goals as goal

pub returns-then-not-in_ranges : goal.returns-then-not-in_ranges
returns-then-not-in_ranges c = fit_set _ _ _ (sym c.if-not-in_ranges.ensures)

pub returns-then-script-gt-BYTES : goal.returns-then-script-gt-BYTES
returns-then-script-gt-BYTES c = fit_long _ _ _ (sym c.if-not-in_ranges.ensures) c.if-script-gt-BYTES.true

pub returns-then-rows-row_numbers : goal.returns-then-rows-row_numbers
returns-then-rows-row_numbers c = fit_rows _ _ _ (sym c.if-not-in_ranges.ensures) c.if-script-gt-BYTES.false (λ e. c.if-rows-row_numbers.true (e ∙ sym c.row_numbers.ensures))

pub returns-else-rows-row_numbers : goal.returns-else-rows-row_numbers
returns-else-rows-row_numbers c = fit_all _ _ _ (sym c.if-not-in_ranges.ensures) c.if-script-gt-BYTES.false (c.if-rows-row_numbers.false ∙ c.row_numbers.ensures)
