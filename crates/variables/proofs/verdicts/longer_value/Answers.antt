-- `variables::verdicts::longer_value` meets its contract. Assumes nothing.
use mathlib.Core.Path.{sym, ◌∙◌}
use Rattle.syntax.specs.Result.{need, ◌>>=◌}
use Rattle.variables.proofs.verdicts.longer_value.Goals as goal

pub returns-then-not-one_more_fits : goal.returns-then-not-one_more_fits
unfolding need ◌>>=◌
returns-then-not-one_more_fits c = λ env i. rw (← c.one_more_fits.ensures, c.if-not-one_more_fits.true)

pub with_first-requires : goal.with_first-requires
with_first-requires c = sym c.one_more_fits.ensures ∙ c.if-not-one_more_fits.false

pub returns : goal.returns
unfolding need ◌>>=◌
returns c = λ env i. rw (← c.one_more_fits.ensures, c.if-not-one_more_fits.false, ← c.with_first.ensures) (c.value_of.ensures env i)
