-- `syntax::limits::row_numbers` meets its contract. Assumes nothing.
use borrow.Author.Rules.{rules}
use Rattle.syntax.specs.Limits.{row_numbers}
use Rattle.syntax.proofs.limits.row_numbers.Goals as goal

pub returns : goal.returns
unfolding row_numbers
returns c = search rules
