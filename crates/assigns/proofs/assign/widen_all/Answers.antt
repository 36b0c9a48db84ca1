-- `assigns::assign::widen_all` meets its contract. The loop: the variables that are not left are widened, all others as before. Assumes nothing.
use mathlib.Core.Path.{◌∙◌}
use Rattle.variables.proofs.MemberLaws.{taken, none_left}
use Rattle.rules.proofs.WriteLaws.{widening_next, widening_over}
use Rattle.assigns.proofs.assign.widen_all.Goals as goal

pub widen-requires : goal.widen-requires
widen-requires c =
    let met = taken _ _ _ c.in-Some.ensures.steps in
    (c.loop-x.invariant.0, c.requires.1 _ (c.loop-x.invariant.2.within _ met.member))

pub loop-x-preserved : goal.loop-x-preserved
loop-x-preserved c =
    let met = taken _ _ _ c.in-Some.ensures.steps in
    (c.widen.ensures.1, c.widen.auto.env ∙ c.loop-x.invariant.1, widening_next _ _ _ _ _ _ _ _ met.member met.others c.widen.ensures.0 c.widen.ensures.2 c.loop-x.invariant.2)

pub shape_of-env : goal.shape_of-env
shape_of-env c = c.loop-x.invariant.1

pub returns : goal.returns
returns c = (widening_over _ _ _ _ _ (none_left _ c.in-None.ensures.steps.0) c.loop-x.invariant.2, c.loop-x.invariant.0)
