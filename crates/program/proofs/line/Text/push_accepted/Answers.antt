use mir.Facts.{to_z-of_z}
use mir.Syntax.{w32}
use mir.Val.{SFits}
use borrow.Author.Rules.{rules}
use Rattle.program.specs.Line.{line_of}
use Rattle.program.proofs.LineLaws.{append_next}
use Rattle.program.proofs.line.Text.push_accepted.Goals as goal

pub returns-clause-put : goal.returns-clause-put
unfolding line_of
returns-clause-put c =
    let h : SFits w32 c.args.call.answer = search rules in
    let s = rw (to_z-of_z h) at c.push_signed.ensures in
    append_next (append_next (append_next (append_next c.push.ensures c.push_decimal.ensures) (append_next c.push-2.ensures s)) (append_next c.push-3.ensures c.push_decimal-2.ensures)) c.push-4.ensures
