-- `choices::choice::keep` meets its contract. The loop: the state of the numbers before x is kept. Assumes nothing.
use native.Mathlib.Omega.{arith}
use lib.ListN.{length-set}
use Rattle.choices.proofs.KeptLaws.{keep_next, keeps_all, taken_below}
use Rattle.choices.proofs.choice.keep.Goals as goal

pub loop-x-preserved : goal.loop-x-preserved
loop-x-preserved c =
    (simp length-set c.loop-x.invariant.0, keep_next _ _ _ _ (omega (arith, c.loop-x-test.true, c.requires.2, c.loop-x.invariant.0)) c.kept_now.ensures c.loop-x.invariant.1)

pub returns : goal.returns
returns c =
    keeps_all _ _ _ _ _ c.requires.0.1.1 (taken_below _ _ _ c.requires.0.0 c.requires.1) (λ y l. c.loop-x.invariant.1 y (omega (arith, l, c.loop-x-test.false)))
