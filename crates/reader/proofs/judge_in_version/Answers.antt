-- `reader::judge_in_version` meets its contract. Assumes nothing.
use mathlib.Core.Path.{sym, ◌∙◌}
use Rattle.syntax.specs.Kinds.{newest}
use Rattle.reader.proofs.OutputAnswers.{set_refused, rows_refused, version_refused, rows_given}
use Rattle.reader.proofs.judge_in_version.Goals as goal

pub returns-then-not-in_ranges : goal.returns-then-not-in_ranges
returns-then-not-in_ranges c = set_refused _ _ _ (sym c.in_ranges.ensures ∙ c.if-not-in_ranges.true)

pub returns-then-rows-row_numbers : goal.returns-then-rows-row_numbers
returns-then-rows-row_numbers c = rows_refused _ _ _ (sym c.in_ranges.ensures ∙ c.if-not-in_ranges.false) (λ e. c.if-rows-row_numbers.true (e ∙ sym c.row_numbers.ensures))

pub returns-then-not-knows_version : goal.returns-then-not-knows_version
unfolding newest
returns-then-not-knows_version c = version_refused _ _ _ (sym c.in_ranges.ensures ∙ c.if-not-in_ranges.false) (c.if-rows-row_numbers.false ∙ c.row_numbers.ensures) (sym c.knows_version.ensures ∙ c.if-not-knows_version.true)

pub returns : goal.returns
unfolding newest
returns c =
    c.judge_given.ensures
    ∙ rows_given _ _ _ (sym c.in_ranges.ensures ∙ c.if-not-in_ranges.false) (c.if-rows-row_numbers.false ∙ c.row_numbers.ensures) (sym c.knows_version.ensures ∙ c.if-not-knows_version.false)
