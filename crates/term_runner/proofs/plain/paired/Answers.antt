-- `term_runner::plain::paired` meets its contract. Assumes nothing.
use mathlib.Core.Path.{◌∙◌}
use Rattle.dynamics.specs.Signed.{less, compared}
use Rattle.term_runner.proofs.RowLaws.{pair_sum, pair_below, as_byte}
use Rattle.term_runner.proofs.plain.paired.Goals as goal

pub returns-in-Sum : goal.returns-in-Sum
returns-in-Sum c = c.sum_bits.ensures ∙ rw (pair_sum _ c.in-Sum.is)

pub returns-in_default : goal.returns-in_default
unfolding compared less
returns-in_default c = rw (pair_below _ c.in_default.not-Sum, c.raised.ensures, c.raised-in_default.ensures) (as_byte _)
