-- `rules::rules::judge_named` meets its contract. Assumes nothing.
use Prim.Native.Nat.{ℕ}
use native.Mathlib.Omega.{arith}
use mathlib.Core.Path.{ap, ap₂, ◌∙◌}
use Rattle.variables.specs.Chains.{chain_of, rest_of}
use Rattle.variables.specs.Table.{links_at, environment_of, as_place}
use Rattle.variables.proofs.ChainLaws.{rest_there, rest_missing}
use Rattle.variables.proofs.TableLaws.{is_dead, not_dead}
use Rattle.variables.proofs.EntryLaws.{status_dead, outside_dead}
use Rattle.rules.proofs.PlaceLaws.{name_unknown, named_root, name_short}
use Rattle.rules.proofs.rules.judge_named.Goals as goal

pub returns-then-variables-root : goal.returns-then-variables-root
returns-then-variables-root c =
    let env = c.args.env.now in
    let nv = c.args.variables in
    let p = as_place c.args.place in
    λ i. name_unknown nv (environment_of env) i p _ c.index_of-root.ensures (outside_dead env nv c.requires _ _ c.if-variables-root.true)

pub bounds-env-root : goal.bounds-env-root
bounds-env-root c =
    omega (arith, c.requires.0, c.if-variables-root.false)

pub returns-then-ne : goal.returns-then-ne
returns-then-ne c =
    let env = c.args.env.now in
    let nv = c.args.variables in
    let p = as_place c.args.place in
    λ i. name_unknown nv (environment_of env) i p _ c.index_of-root.ensures (status_dead env _ _ (is_dead _ _ c.ne.ensures c.if-ne.true))

pub returns-in_default : goal.returns-in_default
returns-in_default c =
    let env = c.args.env.now in
    let nv = c.args.variables in
    let p = as_place c.args.place in
    let live = named_root env _ _ c.index_of-root.ensures (not_dead _ _ c.ne.ensures c.if-ne.false) in
    let told = c.links_from.ensures ∙ ap₂ (λ (k l : ℕ). rest_of k (chain_of l)) c.index_of.ensures (ap (links_at env) c.index_of-root.ensures) in
    λ i. name_short nv (environment_of env) i p _ live (rest_missing _ _ told c.in_default.is)

pub returns : goal.returns
returns c =
    let env = c.args.env.now in
    let live = named_root env _ _ c.index_of-root.ensures (not_dead _ _ c.ne.ensures c.if-ne.false) in
    let told = c.links_from.ensures ∙ ap₂ (λ (k l : ℕ). rest_of k (chain_of l)) c.index_of.ensures (ap (links_at env) c.index_of-root.ensures) in
    let there = rest_there _ _ told c.in-Some.is in
    λ i. record { variable = _; is = live; long = there.0; after = there.1 }
