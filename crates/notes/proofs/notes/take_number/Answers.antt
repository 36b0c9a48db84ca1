-- `notes::notes::take_number` meets its contract. Assumes nothing.
use native.Mathlib.Omega.{arith}
use mathlib.Core.Path.{refl, ◌∙◌}
use lib.ListN.{length-set}
use Rattle.variables.proofs.TableLaws.{field_put}
use Rattle.variables.proofs.WordLaws.{raised_next}
use Rattle.notes.proofs.NoteLaws.{number_taken}
use Rattle.notes.proofs.notes.take_number.Goals as goal

pub returns : goal.returns
returns c =
    number_taken c.args.env.now c.args.variables c.args.x c.requires.0 c.requires.1 c.requires.2 _ _ (c.raise_note.auto.env ∙ length-set _ _ _)
    (field_put _ _ (omega (arith, c.requires.0.0, c.requires.1)) _ 0 _ (omega arith) refl) (raised_next _ _ c.args.variables c.args.x c.raise_note.ensures)
