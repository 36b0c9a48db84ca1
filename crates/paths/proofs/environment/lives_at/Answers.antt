-- `paths::environment::lives_at` meets its contract. The roots left pass the test if and only if all do. Assumes nothing.
use native.Mathlib.Omega.{arith}
use mathlib.Core.Path.{◌≡◌, sym, ◌∙◌}
use mathlib.Core.Bool.{true, false}
use lib.Dec.{leb}
use borrow.Author.Tests.{le-leb, lt-leb}
use Rattle.statics.specs.Environment.{level_of}
use Rattle.variables.specs.Table.{environment_of, long_at}
use Rattle.variables.proofs.MemberLaws.{taken, none_left}
use Rattle.paths.proofs.EveryRoot.{every_over, every_fails, every_on}
use Rattle.paths.proofs.environment.lives_at.Invariants.{around}
use Rattle.paths.proofs.environment.lives_at.Goals as goal

pub level_at-requires : goal.level_at-requires
level_at-requires c = c.requires

pub returns-then-level-level_at : goal.returns-then-level-level_at
returns-then-level-level_at c =
    let met = taken _ _ _ c.in-Some.ensures.steps in
    λ m.
    let deep : leb (level_of (environment_of c.args.env.now c.in-Some.root)) c.args.level ≡ false = lt-leb (level_of (environment_of c.args.env.now c.in-Some.root)) c.args.level (omega (arith, c.if-level-level_at.true, c.level_at.ensures)) in
    sym (every_fails 128 (around c.args.env.now c.args.level) (long_at c.args.env.now) m c.loop-root.root-iterator.left c.in-Some.root met.low met.member deep) ∙ c.loop-root.invariant m

pub loop-root-preserved : goal.loop-root-preserved
loop-root-preserved c =
    let met = taken _ _ _ c.in-Some.ensures.steps in
    λ m.
    let near : leb (level_of (environment_of c.args.env.now c.in-Some.root)) c.args.level ≡ true = le-leb (level_of (environment_of c.args.env.now c.in-Some.root)) c.args.level (omega (arith, c.if-level-level_at.false, c.level_at.ensures)) in
    every_on 128 (around c.args.env.now c.args.level) (long_at c.args.env.now) m c.loop-root.root-iterator.left _ c.in-Some.root near met.others ∙ c.loop-root.invariant m

pub returns : goal.returns
returns c =
    λ m. sym (every_over 128 (around c.args.env.now c.args.level) (long_at c.args.env.now) m c.loop-root.root-iterator.left (none_left _ c.in-None.ensures.steps.0)) ∙ c.loop-root.invariant m
