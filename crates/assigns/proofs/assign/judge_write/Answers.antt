-- `assigns::assign::judge_write` meets its contract. Assumes nothing.
use mathlib.Core.Path.{refl, ap, ◌∙◌}
use Rattle.std.specs.Prelude.{Ok}
use Rattle.syntax.specs.Result.{◌>>=◌}
use Rattle.statics.specs.Rules.{valued, judge_write}
use Rattle.variables.specs.Verdicts.{answered}
use Rattle.variables.proofs.QuestionLaws.{left_with}
use Rattle.assigns.proofs.AssignLaws.{located_as}
use Rattle.assigns.proofs.assign.judge_write.Goals as goal

pub returns-in_default : goal.returns-in_default
unfolding judge_write valued ◌>>=◌
returns-in_default c = (λ i. rw c.in_default.is, c.requires.0)

pub write_own-requires : goal.write_own-requires
write_own-requires c =
    (c.requires, λ i. located_as _ _ _ _ _ _ (c.judge_place.ensures i) (c.in_ok-located.was ∙ ap Ok c.in-Own.is))

pub write_beyond-requires : goal.write_beyond-requires
write_beyond-requires c =
    (c.requires, λ i. located_as _ _ _ _ _ _ (c.judge_place.ensures i) (c.in_ok-located.was ∙ ap Ok c.in-At.is))

pub returns-in_err-located : goal.returns-in_err-located
unfolding judge_write valued ◌>>=◌
returns-in_err-located c = (
  λ i.
      let refused = located_as _ _ _ _ _ _ (c.judge_place.ensures i) c.in_err-located.was in
      ap (answered _ i) (left_with _ _ c.from_residual.ensures.1) ∙ rw (c.in-Some.is, refused) refl,
  c.requires.0,
)

pub returns-in-Own : goal.returns-in-Own
returns-in-Own c =
    let is-of = c.in-Some.is in
    (λ i. rw is-of (c.write_own.ensures.0 i), c.write_own.ensures.1)

pub returns-in-At : goal.returns-in-At
returns-in-At c =
    let is-of = c.in-Some.is in
    (λ i. rw is-of (c.write_beyond.ensures.0 i), c.write_beyond.ensures.1)
