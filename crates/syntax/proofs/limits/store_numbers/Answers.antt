-- `syntax::limits::store_numbers` meets its contract. Assumes nothing.
use borrow.Author.Rules.{rules}
use Rattle.syntax.specs.Limits.{store_numbers}
use Rattle.syntax.proofs.limits.store_numbers.Goals as goal

pub returns : goal.returns
unfolding store_numbers
returns c = search rules
