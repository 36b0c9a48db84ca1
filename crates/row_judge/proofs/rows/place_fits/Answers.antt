-- `row_judge::rows::place_fits` meets its contract. Assumes nothing.
use mathlib.Core.Path.{sym}
use lib.Dec.{leb-zero}
use borrow.Author.Tests.{lt-ltb, le-ltb}
use Rattle.syntax.specs.RowParts.{field_fits, fields_fit}
use Rattle.syntax.proofs.RowFields.{and_true}
use Rattle.row_judge.proofs.rows.place_fits.Goals as goal

pub returns-then-root-variables : goal.returns-then-root-variables
unfolding fields_fit field_fits
returns-then-root-variables c = rw (leb-zero c.args.root, lt-ltb _ _ c.if-root-variables.true, leb-zero c.args.follows) (sym (and_true _))

pub returns-else-root-variables : goal.returns-else-root-variables
unfolding fields_fit field_fits
returns-else-root-variables c = rw (leb-zero c.args.root, le-ltb _ _ c.if-root-variables.false)
