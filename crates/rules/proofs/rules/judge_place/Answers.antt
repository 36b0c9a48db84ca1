-- `rules::rules::judge_place` meets its contract. Assumes nothing.
use native.Mathlib.Omega.{arith}
use mathlib.Core.Path.{◌≡◌, refl, ap, ◌∙◌}
use Rattle.std.specs.Prelude.{Ok}
use Rattle.variables.specs.Table.{environment_of, as_place}
use Rattle.rules.specs.RuleAnswers.{Named}
use Rattle.rules.proofs.PlaceLaws.{named_at, named_refused, named_live, named_inside, search_fits, place_moved, place_there}
use Rattle.rules.proofs.OwnLaws.{found_own}
use Rattle.variables.proofs.QuestionLaws.{left_with}
use Rattle.rules.proofs.rules.judge_place.Goals as goal
use Rattle.rules.proofs.rules.judge_place.Goals.{After-index_of}

-- Where the place is named, and the code has its root and its follows.
module _ (b : After-index_of) where
  named : Named (environment_of b.args.env.now) (as_place b.args.place) b.in_ok-rest.rest
  named = named_at _ _ 0 _ (b.judge_named.ensures 0) b.in_ok-rest.was

  is_root : b.index_of-root.result ≡ (as_place b.args.place).root
  is_root = b.index_of-root.ensures

pub judge_named-requires : goal.judge_named-requires
judge_named-requires c = c.requires.0

pub search-requires : goal.search-requires
search-requires c = (
  c.requires,
  named_live _ _ (named (goal.at.search-requires c).After-index_of) _ (is_root (goal.at.search-requires c).After-index_of),
  search_fits _ _ (named (goal.at.search-requires c).After-index_of) _ (is_root (goal.at.search-requires c).After-index_of) _ c.index_of.ensures,
)

pub bounds-env-root : goal.bounds-env-root
bounds-env-root c =
    omega (arith, c.requires.0.0, named_inside _ _ (named_at _ _ 0 (as_place c.args.place) (c.judge_named.ensures 0) c.in_ok-rest.was) _ c.index_of-root.ensures _ c.requires)

pub returns-in_err-rest : goal.returns-in_err-rest
returns-in_err-rest c =
    let left = left_with _ _ c.from_residual.ensures.1 in
    λ i. rw left (named_refused c.args.variables (environment_of c.args.env.now) i (as_place c.args.place) (c.judge_named.ensures i) c.in_err-rest.was)

pub returns-in-Own : goal.returns-in-Own
returns-in-Own c =
    λ i. found_own _ _ c.requires i _ (named (goal.at.returns-in-Own c).After-index_of) _ (is_root (goal.at.returns-in-Own c).After-index_of) _ c.index_of.ensures _ c.search.ensures (c.in_ok-ends.was ∙ ap Ok c.in-Own.is)

pub returns-in-At : goal.returns-in-At
returns-in-At c =
    λ i. place_there _ _ c.requires i _ (named (goal.at.returns-in-At c).After-index_of) _ (is_root (goal.at.returns-in-At c).After-index_of) _ c.index_of.ensures _ c.search.ensures _ (c.in_ok-ends.was ∙ ap Ok c.in-At.is) _ refl

pub returns-in_err-ends : goal.returns-in_err-ends
returns-in_err-ends c =
    let left = left_with _ _ c.from_residual-in_err-ends.ensures.1 in
    λ i. rw left (place_moved _ _ c.requires i _ (named (goal.at.returns-in_err-ends c).After-index_of) _ (is_root (goal.at.returns-in_err-ends c).After-index_of) _ c.index_of.ensures _ c.search.ensures _ c.in_err-ends.was)
