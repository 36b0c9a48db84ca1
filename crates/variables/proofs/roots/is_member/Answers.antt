-- `variables::roots::is_member` meets its contract. Assumes nothing.
use mathlib.Core.Path.{sym}
use Rattle.variables.specs.Masks.{bit}
use Rattle.variables.proofs.MaskLaws.{in_low, in_high, in_neither}
use Rattle.variables.proofs.roots.is_member.Goals as goal

pub returns-then-x-lt-WORD : goal.returns-then-x-lt-WORD
unfolding bit
returns-then-x-lt-WORD c = sym (in_low _ _ c.before.if-x-lt-WORD.true)

pub returns-then-x : goal.returns-then-x
unfolding bit
returns-then-x c = sym (in_high _ _ c.before.before.if-x-lt-WORD.false c.before.if-x.true)

pub returns : goal.returns
returns c = sym (in_neither _ _ c.if-x.false)
