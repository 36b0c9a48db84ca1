-- `notes::notes::raise_note` meets its contract. Assumes nothing.
use native.Mathlib.Omega.{arith}
use mathlib.Core.Path.{refl, ◌∙◌}
use Rattle.variables.proofs.TableLaws.{field_put}
use Rattle.variables.proofs.WordLaws.{raised_greater}
use Rattle.notes.proofs.notes.raise_note.Goals as goal

pub returns : goal.returns
returns c y j h =
    field_put _ _ c.requires _ 8 _ (omega arith) refl y j h ∙ raised_greater _ _ _ _ y j c.max.ensures
