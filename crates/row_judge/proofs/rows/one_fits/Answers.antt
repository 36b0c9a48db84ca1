-- `row_judge::rows::one_fits` meets its contract. Assumes nothing.
use mathlib.Core.Path.{sym}
use borrow.Author.Tests.{le-leb, lt-leb}
use Rattle.syntax.specs.RowParts.{field_fits, fields_fit}
use Rattle.syntax.proofs.RowFields.{and_true}
use Rattle.row_judge.proofs.rows.one_fits.Goals as goal

pub returns-then-low-operand : goal.returns-then-low-operand
unfolding fields_fit field_fits
returns-then-low-operand c = rw (le-leb _ _ c.if-low-operand.true) (sym (and_true _))

pub returns-else-low-operand : goal.returns-else-low-operand
unfolding fields_fit field_fits
returns-else-low-operand c = rw (lt-leb _ _ c.if-low-operand.false)
