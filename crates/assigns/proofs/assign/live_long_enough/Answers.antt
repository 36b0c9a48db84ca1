-- `assigns::assign::live_long_enough` meets its contract. The loop: the variables left pass the test if and only if all do. Assumes nothing.
use Prim.Native.Nat.{ℕ}
use mathlib.Core.Path.{◌≡◌, sym, ap, ◌∙◌}
use mathlib.Core.Bool.{Bool, true, false}
use mathlib.Core.List.{List}
use Rattle.variables.specs.declared.table.Row.{Row}
use Rattle.variables.specs.declared.roots.Roots.{Roots}
use Rattle.statics.specs.Environment.{level_of}
use Rattle.statics.specs.Roots.{lengths}
use Rattle.variables.specs.Table.{environment_of, long_at}
use Rattle.variables.proofs.MaskLaws.{none_in}
use Rattle.variables.proofs.MemberLaws.{taken, none_left}
use Rattle.paths.proofs.EveryRoot.{every_holds, every_over, every_fails, every_on}
use Rattle.rules.proofs.WriteLaws.{out_kept}
use Rattle.assigns.proofs.assign.live_long_enough.Invariants.{lives, outlives}
use Rattle.assigns.proofs.assign.live_long_enough.Goals as goal

-- What is asked with the level of x is asked of x.
of_x : (env : List Row) (roots : Roots) (x level : ℕ) → level ≡ level_of (environment_of env x) → (r b : Bool) → ((m : ℕ) → r ≡ lives env roots m level) → r ≡ b → (m : ℕ) → lives env roots m (level_of (environment_of env x)) ≡ b
of_x env roots x level is r b asked e m = ap (lives env roots m) (sym is) ∙ sym (asked m) ∙ e

pub returns-then-is_empty : goal.returns-then-is_empty
returns-then-is_empty c =
    let env = c.args.env.now in
    λ m k. sym (every_holds c.args.variables (outlives env c.args.roots m) (lengths (environment_of env)) k c.args.to (λ x l h. every_over 128 _ (long_at env) m c.args.roots (none_in _ (sym c.is_empty.ensures ∙ c.if-is_empty.true))))

pub returns-then-not-lives_at : goal.returns-then-not-lives_at
returns-then-not-lives_at c =
    let met = taken _ _ _ c.in-Some.ensures.steps in
    let env = c.args.env.now in
    let is-in = met.member in
    λ m k.
    sym (every_fails c.args.variables (outlives env c.args.roots m) (lengths (environment_of env)) k c.loop-x.x-iterator.left c.in-Some.x (c.loop-x.invariant.0 _ is-in) is-in
    (of_x env c.args.roots _ _ c.level_at-level.ensures c.lives_at.result false c.lives_at.ensures (c.if-not-lives_at.true) m))
    ∙ c.loop-x.invariant.1 m k

pub loop-x-preserved : goal.loop-x-preserved
loop-x-preserved c =
    let met = taken _ _ _ c.in-Some.ensures.steps in
    let env = c.args.env.now in (
      λ y h. c.loop-x.invariant.0 y (out_kept _ _ _ met.others y h).1,
      λ m k.
          every_on c.args.variables (outlives env c.args.roots m) (lengths (environment_of env)) k c.loop-x.x-iterator.left _ c.in-Some.x
          (of_x env c.args.roots _ _ c.level_at-level.ensures c.lives_at.result true c.lives_at.ensures (c.if-not-lives_at.false) m)
          met.others
          ∙ c.loop-x.invariant.1 m k,
    )

pub returns : goal.returns
returns c =
    let env = c.args.env.now in
    λ m k. sym (every_over c.args.variables (outlives env c.args.roots m) (lengths (environment_of env)) k c.loop-x.x-iterator.left (none_left _ c.in-None.ensures.steps.0)) ∙ c.loop-x.invariant.1 m k
