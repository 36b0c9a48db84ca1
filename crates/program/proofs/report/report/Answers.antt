use mathlib.Core.Path.{refl}
use Rattle.syntax.proofs.Lists.{part_all}
use Rattle.program.specs.Line.{short_line}
use Rattle.program.proofs.ReportLaws.{report_short, report_called}
use Rattle.program.proofs.report.report.Goals as goal

pub returns-then-input-lt-READINGS-clause-answered : goal.returns-then-input-lt-READINGS-clause-answered
unfolding short_line
returns-then-input-lt-READINGS-clause-answered c =
    report_short _ _ _ c.new-text.ensures c.push.ensures _ _ _ _ _ _ _ c.put.ensures.length c.put.ensures.put c.if-input-lt-READINGS.true refl

pub returns-clause-answered : goal.returns-clause-answered
returns-clause-answered c =
    report_called _ _ _ c.new-text.ensures c.push_answer.ensures.put _ _ _ _ _ _ _ c.put-2.ensures.length c.put-2.ensures.put c.if-input-lt-READINGS.false
    _ _ _ _ _ (part_all c.args.input.now 32) c.readings_of-readings.ensures c.call-answer.ensures.answered refl
