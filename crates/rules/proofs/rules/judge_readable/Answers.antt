-- `rules::rules::judge_readable` meets its contract. Assumes nothing.
use mathlib.Core.Path.{◌≡◌}
use mathlib.Core.Bool.{true}
use Rattle.variables.specs.Table.{environment_of, as_place}
use Rattle.rules.specs.RuleAnswers.{Named}
use Rattle.rules.proofs.PlaceLaws.{named_at, named_live, whole_is, whole_refused, readable_refused, readable_moved, readable_barred, readable_there}
use Rattle.variables.proofs.QuestionLaws.{left_with}
use Rattle.rules.proofs.rules.judge_readable.Goals as goal
use Rattle.rules.proofs.rules.judge_readable.Goals.{After-index_of-root}

-- Where the place is named, and the code has its root.
module _ (b : After-index_of-root) where
  named : Named (environment_of b.args.env.now) (as_place b.args.place) b.in_ok-rest.rest
  named = named_at _ _ 0 _ (b.judge_named.ensures 0) b.in_ok-rest.was

  is_root : b.index_of-root.result ≡ (as_place b.args.place).root
  is_root = b.index_of-root.ensures

pub judge_named-requires : goal.judge_named-requires
judge_named-requires c = c.requires.0

pub returns-in_err-rest : goal.returns-in_err-rest
returns-in_err-rest c =
    let nv = c.args.variables in
    let Γ = environment_of c.args.env.now in
    let p = as_place c.args.place in
    let left = left_with _ _ c.from_residual.ensures.1 in
    (λ i ns barred. rw left (readable_refused nv ns Γ i p (c.judge_named.ensures i) c.in_err-rest.was), whole_refused nv Γ p left)

pub value_whole-requires : goal.value_whole-requires
value_whole-requires c = (c.requires, named_live _ _ (named (goal.at.value_whole-requires c).After-index_of-root) _ (is_root (goal.at.value_whole-requires c).After-index_of-root))

pub returns-then-not-value_whole : goal.returns-then-not-value_whole
returns-then-not-value_whole c =
    (λ i ns barred. readable_moved _ _ c.requires i _ (named (goal.at.returns-then-not-value_whole c).After-index_of-root) _ (is_root (goal.at.returns-then-not-value_whole c).After-index_of-root) _ c.value_whole.ensures ns (c.if-not-value_whole.true), tt)

pub returns-then-barred : goal.returns-then-barred
returns-then-barred c =
    (λ i ns barred. readable_barred _ _ c.requires i _ (named (goal.at.returns-then-barred c).After-index_of-root) _ (is_root (goal.at.returns-then-barred c).After-index_of-root) _ c.value_whole.ensures ns c.if-not-value_whole.false _ barred c.if-barred.true, tt)

pub returns : goal.returns
returns c =
    let nv = c.args.variables in
    let env = c.args.env.now in
    let p = as_place c.args.place in
    let k = (goal.at.returns c).After-index_of-root in (
      λ i ns barred. readable_there _ _ c.requires i _ (named k) _ (is_root k) _ c.value_whole.ensures ns c.if-not-value_whole.false _ barred c.if-barred.false,
      (named k, whole_is env p (named k) _ (is_root k) nv _ true c.value_whole.ensures c.if-not-value_whole.false),
    )
