use mathlib.Core.Path.{refl}
use Rattle.syntax.specs.Layout.{zeros}
use Rattle.syntax.specs.Limits.{base, row_numbers, store_numbers}
use Rattle.program.proofs.ReportLaws.{report_base}
use Rattle.program.proofs.report.report_base.Goals as goal

pub returns : goal.returns
unfolding base row_numbers store_numbers zeros
returns c = record { answered = report_base _ _ _ _ _ _ _ _ c.report.ensures.answered refl refl; within = c.report.ensures.within }
