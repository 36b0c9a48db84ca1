-- `store::store::Row::from_words` meets its contract. Assumes nothing.
use native.Mathlib.Omega.{arith}
use mathlib.Core.Path.{ap}
use borrow.Author.Tests.{ne_eqb}
use Rattle.dynamics.specs.Values.{open_with}
use Rattle.store.specs.Words.{row_from}
use Rattle.store.proofs.store.Row.from_words.Goals as goal

pub returns-in-1 : goal.returns-in-1
unfolding row_from
returns-in-1 c set = rw c.in-1.is (ap open_with (c.from_words.ensures set))

pub returns-in-2 : goal.returns-in-2
unfolding row_from
returns-in-2 c set = rw c.in-2.is

pub returns-in_default : goal.returns-in_default
unfolding row_from
returns-in_default c set = rw (ne_eqb c.args.state 1 (omega arith), ne_eqb c.args.state 2 (omega arith))
