-- `variables::roots::only` meets its contract. Assumes nothing.
use Rattle.variables.proofs.MaskLaws.{in_one_low, in_one_high}
use Rattle.variables.proofs.roots.only.Goals as goal

pub returns-then-x-lt-WORD : goal.returns-then-x-lt-WORD
returns-then-x-lt-WORD c = in_one_low _ c.if-x-lt-WORD.true

pub returns-else-x-lt-WORD : goal.returns-else-x-lt-WORD
returns-else-x-lt-WORD c = in_one_high _ c.if-x-lt-WORD.false c.before.requires
