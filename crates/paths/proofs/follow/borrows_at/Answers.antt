-- `paths::follow::borrows_at` meets its contract. The roots of the variables taken out so far are in, and nothing else. Assumes nothing.
use native.Mathlib.Omega.{arith}
use mathlib.Core.Path.{refl}
use Rattle.variables.proofs.MemberLaws.{taken, none_left}
use Rattle.paths.proofs.GatherLaws.{gather_round, gather_over}
use Rattle.paths.proofs.follow.borrows_at.Goals as goal

pub bounds-env-x : goal.bounds-env-x
bounds-env-x c =
    let met = taken _ _ _ c.in-Some.ensures.steps in
    omega (arith, c.requires.0, c.requires.1 _ (c.loop-x.invariant.inside _ met.member))

pub loop-x-preserved : goal.loop-x-preserved
loop-x-preserved c =
    let met = taken _ _ _ c.in-Some.ensures.steps in
    gather_round _ _ _ _ c.loop-x.invariant _ met.member _ _ _ refl c.unite-roots.ensures met.others

pub returns : goal.returns
returns c = gather_over _ _ _ _ c.loop-x.invariant (none_left _ c.in-None.ensures.steps.0)

pub offset_bounds-env-x : goal.offset_bounds-env-x
offset_bounds-env-x c = omega (arith, (taken _ _ _ c.in-Some.ensures.steps).low)
