-- `term_reader::operands::read_word` meets its contract. Assumes nothing.
use mathlib.Core.Path.{refl}
use borrow.Author.Tests.{lt-ltb, le-ltb}
use Rattle.syntax.specs.Layout.{zeros}
use Rattle.syntax.specs.ByteParts.{judged_fields, values_at}
use Rattle.term_reader.proofs.operands.read_word.Goals as goal

pub returns-in_default : goal.returns-in_default
unfolding judged_fields
returns-in_default c = (rw (lt-ltb _ _ c.in_default.len_below) refl, tt)

pub returns : goal.returns
unfolding judged_fields values_at zeros
returns c = (rw (le-ltb _ _ c.in-len5-up.len_at_least) refl, rw c.from_be_bytes.ensures refl)
