-- `rules::rules::begin_let` meets its contract. Assumes nothing.
use mathlib.Core.Path.{sym, ◌∙◌}
use Rattle.syntax.specs.Result.{need, ◌>>=◌}
use Rattle.rules.proofs.rules.begin_let.Goals as goal

pub returns-then-not-is_free : goal.returns-then-not-is_free
unfolding need ◌>>=◌
returns-then-not-is_free c =
    (rw (← c.is_free.ensures, c.if-not-is_free.true), c.requires.0)

pub take_number-requires : goal.take_number-requires
take_number-requires c =
    (c.requires.0, c.requires.1, sym c.is_free.ensures ∙ c.if-not-is_free.false)

pub returns : goal.returns
unfolding need ◌>>=◌
returns c =
    (rw (← c.is_free.ensures, c.if-not-is_free.false, c.take_number.ensures.0), c.take_number.ensures.1)
