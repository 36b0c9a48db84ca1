-- `notes::notes::store` meets its contract. Assumes nothing.
use native.Mathlib.Omega.{arith}
use mathlib.Core.Path.{refl}
use lib.ListN.{length-set}
use Rattle.variables.proofs.TableLaws.{field_put, set_put}
use Rattle.notes.proofs.StoreLaws.{stored}
use Rattle.notes.proofs.notes.store.Goals as goal

pub returns : goal.returns
returns c =
    stored c.args.variables c.args.env.now _ _ _ _ c.note_holder.new.env c.args.x c.args.state c.end_roots-roots.result c.requires.3 c.end_roots-roots.ensures
    (field_put _ _ (omega (arith, c.requires.0, c.requires.1)) _ 1 _ (omega arith) refl)
    (field_put _ _ (simp length-set (omega (arith, c.requires.0, c.requires.1))) _ 4 _ (omega arith) refl)
    (field_put _ _ (simp length-set (omega (arith, c.requires.0, c.requires.1))) _ 5 _ (omega arith) refl)
    (set_put _ _ (simp length-set (omega (arith, c.requires.0, c.requires.1))) _ 2 _ (omega arith) refl) c.note_holder.ensures
