-- `notes::notes::note_holder` meets its contract. The invariant: the holders of the roots that the loop has met are noted, and the table is as
-- before otherwise. Assumes nothing.
use native.Mathlib.Omega.{arith}
use mathlib.Core.Path.{refl, ◌∙◌}
use lib.ListN.{length-set}
use Rattle.variables.proofs.TableLaws.{set_put}
use Rattle.variables.proofs.MemberLaws.{taken, none_left}
use Rattle.notes.proofs.NoteLaws.{noting_ends, noting_skips, noting_adds}
use Rattle.notes.proofs.notes.note_holder.Goals as goal

pub loop-root-preserved-then-root-variables : goal.loop-root-preserved-then-root-variables
loop-root-preserved-then-root-variables c =
    let met = taken _ _ _ c.in-Some.ensures.steps in
    (length-set _ _ _ ∙ c.loop-root.invariant.0, noting_adds _ _ _ _ _ _ _ _ c.loop-root.invariant.1 met.others _ _ _ _ c.if-root-variables.true refl c.only.ensures c.unite.ensures (set_put _ _ (omega (arith, c.requires.0, c.if-root-variables.true, c.loop-root.invariant.0)) _ 3 _ (omega arith) refl))

pub loop-root-preserved : goal.loop-root-preserved
loop-root-preserved c =
    let met = taken _ _ _ c.in-Some.ensures.steps in
    (c.loop-root.invariant.0, noting_skips _ _ _ _ _ _ _ _ c.loop-root.invariant.1 met.others c.if-root-variables.false)

pub returns : goal.returns
returns c = noting_ends _ _ _ _ _ _ c.loop-root.invariant.1 (none_left _ c.in-None.ensures.steps.0)
