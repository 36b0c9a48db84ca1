-- `rules::rules::judge_shared` meets its contract. Assumes nothing.
use Prim.Native.Nat.{ℕ, ◌<◌}
use native.Mathlib.Omega.{arith}
use mathlib.Core.Path.{◌≡◌, sym, ap, ◌∙◌}
use mathlib.Core.Bool.{true}
use mathlib.Core.List.{List}
use mathlib.Core.Option.{none}
use lib.ListN.{take}
use Rattle.syntax.specs.Result.{◌>>=◌}
use Rattle.syntax.specs.Script.{Place}
use Rattle.variables.specs.declared.table.Row.{Row}
use Rattle.statics.specs.Links.{last_shared}
use Rattle.statics.specs.Follow.{value_whole}
use Rattle.statics.specs.Uses.{Unfinished}
use Rattle.statics.specs.Bars.{read_barred}
use Rattle.statics.specs.Rules.{judge_shared}
use Rattle.variables.specs.Chains.{chain_of, as_passed}
use Rattle.variables.specs.Table.{links_at, environment_of, as_place}
use Rattle.rules.specs.RuleAnswers.{Named, Read}
use Rattle.rules.proofs.PlaceLaws.{whole_at, read_at, read_refused, named_inside, shared_there}
use Rattle.rules.proofs.LentLaws.{shared_asks, shared_lent}
use Rattle.variables.specs.Verdicts.{answered}
use Rattle.variables.proofs.QuestionLaws.{left_with}
use Rattle.rules.proofs.rules.judge_shared.Goals as goal
use Rattle.rules.proofs.rules.judge_shared.Goals.{After-index_of-root, After-last_shared-passed}

-- Where the place is readable; the code has its root as `root`.
module _ (k : After-index_of-root) where
  abbrev env : List Row
  env = k.args.env.now

  abbrev p : Place
  p = as_place k.args.place

  abbrev root : ℕ
  root = k.index_of-root.result

  abbrev rest : ℕ
  rest = k.in_ok-rest.rest

  -- Its value is whole, whatever was told of bars.
  named : (F : Named (environment_of env) p rest) × (value_whole k.args.variables (environment_of env) p.root F.variable ≡ true)
  named = whole_at _ _ _ k.judge_readable.ensures.1 k.in_ok-rest.was

  read : (i : ℕ) (ns : Unfinished) → k.args.barred ≡ read_barred k.args.variables ns (environment_of env) p.root → Read k.args.variables ns (environment_of env) i p rest
  read i ns barred = read_at _ ns _ i _ (k.judge_readable.ensures.0 i ns barred) k.in_ok-rest.was

  inside : root < k.args.variables
  inside = named_inside _ _ named.0 _ k.index_of-root.ensures _ k.requires

-- Where the last shared link is looked for.
module _ (c : After-last_shared-passed) where
  abbrev follows : ℕ
  follows = c.index_of.result

  last : last_shared (take follows (chain_of (links_at c.args.env.now c.index_of-root.result))) ≡ as_passed c.last_shared-passed.result
  last = sym c.last_shared-passed.ensures

pub bounds-env-root : goal.bounds-env-root
bounds-env-root c =
    omega (arith, c.requires.0.0, named_inside _ _ (whole_at _ _ _ c.judge_readable.ensures.1 c.in_ok-rest.was).0 _ c.index_of-root.ensures _ c.requires)

pub only-requires : goal.only-requires
only-requires c =
    let k = (goal.at.only-requires c).After-index_of-root in
    omega (arith, inside k, k.requires.0.1)

pub lent_at-requires : goal.lent_at-requires
lent_at-requires c =
    let k = (goal.at.lent_at-requires c).After-index_of-root in (
      k.requires,
      shared_asks _ _ k.requires _ (named k).0 _ k.index_of-root.ensures _ c.index_of.ensures (named k).1 _ (last (goal.at.lent_at-requires c).After-last_shared-passed ∙ ap as_passed c.in-Some.is),
    )

pub returns-in_err-rest : goal.returns-in_err-rest
unfolding judge_shared ◌>>=◌
returns-in_err-rest c =
    λ i ns barred.
    let none = read_refused c.args.variables ns (environment_of c.args.env.now) i (as_place c.args.place) (c.judge_readable.ensures.0 i ns barred) c.in_err-rest.was in
    ap (answered _ i) (left_with _ _ c.from_residual.ensures.1) ∙ rw none

pub returns-in-None : goal.returns-in-None
returns-in-None c =
    let k = (goal.at.returns-in-None c).After-index_of-root in
    let unpassed : last_shared (take (p k).follows (chain_of (links_at (env k) (root k)))) ≡ none =
    ap (λ (n : ℕ). last_shared (take n (chain_of (links_at (env k) (root k))))) (sym c.index_of.ensures) ∙ last (goal.at.returns-in-None c).After-last_shared-passed ∙ ap as_passed c.in-None.is in
    λ i ns barred. shared_there _ _ k.requires i _ (read k i ns barred) _ k.index_of-root.ensures unpassed _ c.only.ensures _ c.longer_value.ensures

pub returns-in-Some : goal.returns-in-Some
returns-in-Some c =
    let k = (goal.at.returns-in-Some c).After-index_of-root in
    λ i ns barred. shared_lent _ _ k.requires i _ (read k i ns barred) _ k.index_of-root.ensures _ c.index_of.ensures _ (last (goal.at.returns-in-Some c).After-last_shared-passed ∙ ap as_passed c.in-Some.is) _ (c.lent_at.ensures i) _ c.longer_value-in-Some.ensures
