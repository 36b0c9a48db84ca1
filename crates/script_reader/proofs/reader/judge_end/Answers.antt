-- `script_reader::reader::judge_end` meets its contract. Assumes nothing.
use mathlib.Core.Path.{refl}
use borrow.Author.Tests.{lt-ltb, le-ltb}
use Rattle.script_reader.specs.Lent.{end_judged}
use Rattle.script_reader.proofs.reader.judge_end.Goals as goal

pub returns-then-at-script : goal.returns-then-at-script
unfolding end_judged
returns-then-at-script c = λ terms version. rw (lt-ltb _ _ c.if-at-script.true) refl

pub returns : goal.returns
unfolding end_judged
returns c = λ terms version. rw (le-ltb _ _ c.if-at-script.false) refl
