-- `bars::bars::leading_to` meets its contract. Assumes nothing.
use Prim.Native.Nat.{◌<◌}
use native.Mathlib.Omega.{arith}
use mathlib.Core.Path.{refl, sym, ap, ◌∙◌}
use mathlib.Core.Logic.{inl, inr}
use Rattle.variables.specs.declared.roots.Roots.{Roots}
use Rattle.variables.specs.Masks.{has}
use Rattle.bars.specs.Leading.{named_from}
use Rattle.variables.proofs.MaskLaws.{none_in}
use Rattle.variables.proofs.MemberLaws.{Taken, taken, none_left}
use Rattle.bars.proofs.LeadingLaws.{Gathering, steps, left_low, gather_finds, gather_skips, gather_over}
use Rattle.bars.proofs.bars.leading_to.Goals as goal
use Rattle.bars.proofs.bars.leading_to.Goals.{In-Some, After-unite-left, Else-not-is_empty, then-names, else-names}

-- x is taken up: the lowest of those to be looked at.
up : (u : In-Some) → Taken u.loop-x.left u.in-Some.x u.take_lowest.new.self
up u = taken _ _ _ u.in-Some.ensures

-- It is a variable of the table.
low : (u : In-Some) → u.in-Some.x < u.args.variables
low u = left_low _ _ u.requires.0 _ _ _ _ u.in_scope-scope.ensures _ _ _ _ u.loop-x.invariant _ (up u).member

pub bounds-env-x : goal.bounds-env-x
bounds-env-x c =
    omega (arith, left_low _ _ c.requires.0 _ _ _ _ c.in_scope-scope.ensures _ _ _ _ c.loop-x.invariant _ (taken _ _ _ c.in-Some.ensures).member, c.requires.0.0)

pub offset_bounds-env-x : goal.offset_bounds-env-x
offset_bounds-env-x c = omega (arith, (taken _ _ _ c.in-Some.ensures).low)

pub only-one-requires : goal.only-one-requires
only-one-requires c = (up (goal.at.only-one-requires c).In-Some).low

pub names-requires : goal.names-requires
names-requires c = omega (arith, low (goal.at.names-requires c).In-Some, c.requires.1)

pub bounds-env-x-then-not-is_empty : goal.bounds-env-x-then-not-is_empty
bounds-env-x-then-not-is_empty c =
    omega (arith, left_low _ _ c.requires.0 _ _ _ _ c.in_scope-scope.ensures _ _ _ _ c.loop-x.invariant _ (taken _ _ _ c.in-Some.ensures).member, c.requires.0.0)

pub offset_bounds-env-x-then-not-is_empty : goal.offset_bounds-env-x-then-not-is_empty
offset_bounds-env-x-then-not-is_empty c = omega (arith, (taken _ _ _ c.in-Some.ensures).low)

-- The variable is found: what the loop keeps holds again, and there is less to do.
found : (c : After-unite-left) → Gathering c.args.env.now c.args.root c.common-left.result (named_from c.args.later.now.uses.now c.args.later.now.from (has c.args.later.now.named)) c.unite-all.result c.unite-towards.result c.unite-left.result c.if-names.named
    × (steps c.unite-all.result c.unite-left.result < steps c.loop-x.all c.loop-x.left)
found c =
    let one = taken _ _ _ c.in-Some.ensures in
    gather_finds _ _ c.requires.0 _ _ _ _ c.in_scope-scope.ensures _ _ _ _ c.loop-x.invariant _ one.member _ one.others _ c.only-one.ensures c.names.result c.names.ensures _ _ _ _ _ _ _
    (elim c.if-names.branch [
      | then-names w ↦ inl (w.if-names.true, λ y. ap (λ (s : Roots). has s y) w.named-is ∙ w.unite-named.ensures y)
      | else-names w ↦ inr (w.if-names.false, w.named-is)
    ])
    c.unite-all.ensures c.unite-towards.ensures refl c.less.ensures c.common-then-not-is_empty.ensures c.unite-left.ensures

pub loop-x-smaller-then-not-is_empty : goal.loop-x-smaller-then-not-is_empty
loop-x-smaller-then-not-is_empty c = (found (goal.at.loop-x-smaller-then-not-is_empty c).After-unite-left).1

pub loop-x-preserved-then-not-is_empty : goal.loop-x-preserved-then-not-is_empty
loop-x-preserved-then-not-is_empty c = (found (goal.at.loop-x-preserved-then-not-is_empty c).After-unite-left).0

-- It records neither the root nor one that is found: so it is, with the sets as they were.
skipped : (c : Else-not-is_empty) → Gathering c.args.env.now c.args.root c.common-left.result (named_from c.args.later.now.uses.now c.args.later.now.from (has c.args.later.now.named)) c.loop-x.all c.loop-x.towards c.take_lowest.new.self c.loop-x.named
    × (steps c.loop-x.all c.take_lowest.new.self < steps c.loop-x.all c.loop-x.left)
skipped c =
    let one = taken _ _ _ c.in-Some.ensures in
    gather_skips _ _ c.requires.0 _ _ _ _ c.in_scope-scope.ensures _ _ _ _ c.loop-x.invariant _ one.member _ one.others _ _ refl c.common.ensures
    (none_in _ (sym c.is_empty.ensures ∙ c.if-not-is_empty.false))

pub loop-x-smaller : goal.loop-x-smaller
loop-x-smaller c = (skipped (goal.at.loop-x-smaller c).Else-not-is_empty).1

pub loop-x-preserved : goal.loop-x-preserved
loop-x-preserved c = (skipped (goal.at.loop-x-preserved c).Else-not-is_empty).0

pub returns : goal.returns
returns c =
    gather_over _ _ c.requires.0 _ _ _ _ c.in_scope-scope.ensures _ _ _ _ c.loop-x.invariant _ c.common-left.ensures (none_left _ c.in_default.ensures.0) _ refl refl
