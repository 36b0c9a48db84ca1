-- `rules::rules::judge_exclusive` meets its contract. Assumes nothing.
use Prim.Native.Nat.{ℕ, ◌<◌}
use native.Mathlib.Omega.{arith}
use mathlib.Core.Path.{◌≡◌, refl, sym, ap, ◌∙◌}
use mathlib.Core.List.{List}
use Rattle.syntax.specs.Result.{◌>>=◌}
use Rattle.syntax.specs.Script.{Place}
use Rattle.variables.specs.declared.table.Row.{Row}
use Rattle.statics.specs.Rules.{judge_exclusive}
use Rattle.variables.specs.Table.{environment_of, as_place}
use Rattle.rules.specs.RuleAnswers.{Named}
use Rattle.rules.proofs.PlaceLaws.{named_at, named_refused, named_live, named_inside, exclusive_moved, exclusive_shared, exclusive_barred, exclusive_there}
use Rattle.variables.specs.Verdicts.{answered}
use Rattle.variables.proofs.QuestionLaws.{left_with}
use Rattle.rules.proofs.rules.judge_exclusive.Goals as goal
use Rattle.rules.proofs.rules.judge_exclusive.Goals.{In_ok-rest}

-- Where the place is named; the code has its root as `root`.
module _ (k : In_ok-rest) where
  abbrev env : List Row
  env = k.args.env.now

  abbrev nv : ℕ
  nv = k.args.variables

  abbrev p : Place
  p = as_place k.args.place

  abbrev root : ℕ
  root = k.index_of-root.result

  is_root : root ≡ p.root
  is_root = k.index_of-root.ensures

  named : Named (environment_of env) p k.in_ok-rest.rest
  named = named_at nv (environment_of env) 0 p (k.judge_named.ensures 0) k.in_ok-rest.was

  inside : root < nv
  inside = named_inside env p named root is_root nv k.requires

pub judge_named-requires : goal.judge_named-requires
judge_named-requires c = c.requires.0

pub value_whole-requires : goal.value_whole-requires
value_whole-requires c = (c.requires, named_live c.args.env.now (p (goal.at.value_whole-requires c).In_ok-rest) (named (goal.at.value_whole-requires c).In_ok-rest) _ (is_root (goal.at.value_whole-requires c).In_ok-rest))

pub returns-then-not-value_whole : goal.returns-then-not-value_whole
returns-then-not-value_whole c =
    λ i ns barred. sym (exclusive_moved c.args.env.now c.args.variables c.requires i (p (goal.at.returns-then-not-value_whole c).In_ok-rest) (named (goal.at.returns-then-not-value_whole c).In_ok-rest) _ (is_root (goal.at.returns-then-not-value_whole c).In_ok-rest) _ c.value_whole.ensures ns (c.if-not-value_whole.true))

pub bounds-env-root : goal.bounds-env-root
bounds-env-root c =
    omega (arith, c.requires.0.0, named_inside _ _ (named_at _ _ 0 (as_place c.args.place) (c.judge_named.ensures 0) c.in_ok-rest.was) _ c.index_of-root.ensures _ c.requires)

pub returns-then-not-no_shared : goal.returns-then-not-no_shared
returns-then-not-no_shared c =
    λ i ns barred. sym (exclusive_shared c.args.env.now c.args.variables c.requires i (p (goal.at.returns-then-not-no_shared c).In_ok-rest) (named (goal.at.returns-then-not-no_shared c).In_ok-rest) _ (is_root (goal.at.returns-then-not-no_shared c).In_ok-rest) _ c.value_whole.ensures ns c.if-not-value_whole.false _ _ c.index_of.ensures refl _ c.no_shared.ensures (c.if-not-no_shared.true))

pub returns-then-barred : goal.returns-then-barred
returns-then-barred c =
    λ i ns barred. sym (exclusive_barred c.args.env.now c.args.variables c.requires i (p (goal.at.returns-then-barred c).In_ok-rest) (named (goal.at.returns-then-barred c).In_ok-rest) _ (is_root (goal.at.returns-then-barred c).In_ok-rest) _ c.value_whole.ensures ns c.if-not-value_whole.false _ _ c.index_of.ensures refl _ c.no_shared.ensures c.if-not-no_shared.false _ barred c.if-barred.true)

pub only-requires : goal.only-requires
only-requires c =
    omega (arith, inside (goal.at.only-requires c).In_ok-rest, c.requires.0.1)

pub returns-in_err-rest : goal.returns-in_err-rest
unfolding judge_exclusive ◌>>=◌
returns-in_err-rest c =
    λ i ns barred.
    let refused = named_refused c.args.variables (environment_of c.args.env.now) i (as_place c.args.place) (c.judge_named.ensures i) c.in_err-rest.was in
    ap (answered _ i) (left_with _ _ c.from_residual.ensures.1) ∙ rw refused

pub returns : goal.returns
returns c =
    λ i ns barred. exclusive_there c.args.env.now c.args.variables c.requires i (p (goal.at.returns c).In_ok-rest) (named (goal.at.returns c).In_ok-rest) _ (is_root (goal.at.returns c).In_ok-rest) _ c.value_whole.ensures ns c.if-not-value_whole.false _ _ c.index_of.ensures refl _ c.no_shared.ensures c.if-not-no_shared.false _ barred c.if-barred.false _ c.only.ensures _ c.longer_value.ensures
