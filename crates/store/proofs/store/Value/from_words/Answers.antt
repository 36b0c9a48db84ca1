-- `store::store::Value::from_words` meets its contract. Assumes nothing.
use native.Mathlib.Omega.{arith}
use borrow.Author.Tests.{ne_eqb}
use Rattle.store.specs.Words.{value_of}
use Rattle.store.proofs.store.Value.from_words.Goals as goal

pub returns-in-1 : goal.returns-in-1
unfolding value_of
returns-in-1 c set = rw c.in-1.is

pub returns-in-2 : goal.returns-in-2
unfolding value_of
returns-in-2 c set = rw c.in-2.is

pub returns-in-3 : goal.returns-in-3
unfolding value_of
returns-in-3 c set = rw c.in-3.is

pub returns-in_default : goal.returns-in_default
unfolding value_of
returns-in_default c set = rw (ne_eqb c.args.kind 1 (omega arith), ne_eqb c.args.kind 2 (omega arith), ne_eqb c.args.kind 3 (omega arith))
