-- `notes::notes::move_away` meets its contract. Assumes nothing.
use native.Mathlib.Omega.{arith}
use mathlib.Core.Path.{refl}
use lib.ListN.{length-set}
use Rattle.variables.proofs.TableLaws.{field_put}
use Rattle.notes.proofs.StateLaws.{moved_away_law}
use Rattle.notes.proofs.notes.move_away.Goals as goal

pub returns : goal.returns
returns c =
    moved_away_law c.args.env.now c.args.variables c.args.x c.requires.0 c.requires.1 c.args.k _ (length-set _ _ _)
    (field_put _ _ (omega (arith, c.requires.0.0, c.requires.1)) _ 4 _ (omega arith) refl)
