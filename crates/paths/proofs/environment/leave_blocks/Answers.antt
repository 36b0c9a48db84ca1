-- `paths::environment::leave_blocks` meets its contract. The variables that are taken out of `left` have left scope, all else is as at the start.
-- Assumes nothing.
use native.Mathlib.Omega.{arith}
use native.Mathlib.Numerals.{add-one}
use mathlib.Core.Path.{◌≡◌, refl, ap, ◌∙◌, subst}
use mathlib.Core.Bool.{Bool}
use mathlib.Core.List.{List}
use Prim.Native.Nat.{ℕ, ◌+◌, ◌<◌}
use lib.ListN.{length, set, length-set}
use Rattle.variables.specs.declared.roots.Roots.{Roots}
use Rattle.variables.specs.declared.table.Row.{Row}
use Rattle.variables.specs.Masks.{has}
use Rattle.variables.proofs.TableLaws.{field_put, PutSet, set_put}
use Rattle.variables.proofs.MemberLaws.{taken, none_left}
use Rattle.paths.proofs.LeavingLaws.{leaving_first, leaving_next, leaving_inside, all_left}
use Rattle.paths.proofs.environment.leave_blocks.Goals as goal

-- The walk begins with what is to leave.
began : {r s : Roots} {f : ℕ → Bool} → r ≡ s → ((x : ℕ) → has s x ≡ f x) → (x : ℕ) → has r x ≡ f x
began e h = λ x. ap (λ (t : Roots). has t x) e ∙ h x

pub loop-x-init : goal.loop-x-init
loop-x-init c = (refl, leaving_first _ _)

pub bounds-env-x : goal.bounds-env-x
bounds-env-x c =
    let met = taken _ _ _ c.in-Some.ensures.steps in
    let inside = leaving_inside _ _ c.requires.0 _ _ _ c.in_scope.ensures (began c.into_iter-x-iterator.ensures.into_iter_gives c.less-inside.ensures) _ _ c.loop-x.invariant.1 _ met.member in
    omega (arith, inside, c.loop-x.invariant.0, c.requires.0.0)

pub offset_bounds-env-x : goal.offset_bounds-env-x
offset_bounds-env-x c = omega (arith, (taken _ _ _ c.in-Some.ensures.steps).low)

pub loop-x-preserved : goal.loop-x-preserved
loop-x-preserved c =
    let met = taken _ _ _ c.in-Some.ensures.steps in
    let inside = leaving_inside _ _ c.requires.0 _ _ _ c.in_scope.ensures (began c.into_iter-x-iterator.ensures.into_iter_gives c.less-inside.ensures) _ _ c.loop-x.invariant.1 _ met.member in
    (length-set _ _ _ ∙ c.loop-x.invariant.0, leaving_next _ _ _ _ _ _ _ c.loop-x.invariant.1 met.member met.others (field_put _ _ (omega (arith, inside, c.loop-x.invariant.0, c.requires.0.0)) _ 0 _ (omega arith) refl))

pub returns : goal.returns
returns c =
    let none = none_left _ c.in-None.ensures.steps.0 in
    let room : c.args.variables + 1 < length c.loop-x.env = omega (arith, c.loop-x.invariant.0, c.requires.0.0) in
    let put : PutSet c.loop-x.env (c.args.variables + 1) 2 c.args.before (set c.loop-x.env (c.args.variables + 1) _) = set_put _ _ room _ 2 _ (omega arith) refl in
    all_left _ _ c.requires.0 _ _ _ c.in_scope.ensures (began c.into_iter-x-iterator.ensures.into_iter_gives c.less-inside.ensures) _ _ _ c.requires.1 c.loop-x.invariant.1 none (simp add-one at put) (length-set _ _ _ ∙ c.loop-x.invariant.0)
