use Rattle.program.specs.Line.{line_of}
use Rattle.program.proofs.LineLaws.{append_next}
use Rattle.program.proofs.line.Text.push_refused.Goals as goal

pub returns-clause-put : goal.returns-clause-put
unfolding line_of
returns-clause-put c =
    append_next (append_next (append_next c.push.ensures c.push_decimal.ensures) (append_next c.push-2.ensures c.push_decimal-2.ensures)) c.push-3.ensures
