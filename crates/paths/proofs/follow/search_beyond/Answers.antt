-- `paths::follow::search_beyond` meets its contract. The root has been looked at before the loop. What is met and no longer to do passes, and counts where following ends there; what it
-- leads to is met. Nothing met is out of scope, so each round leaves one fewer of the variables. Assumes nothing.
use Prim.Native.Nat.{ℕ, ◌≤◌, ◌<◌}
use native.Mathlib.Omega.{arith}
use mathlib.Core.Path.{◌≡◌, refl, sym, ap, ◌∙◌}
use lib.ListN.{length}
use Rattle.std.specs.Prelude.{Ok}
use Rattle.variables.specs.Chains.{chain_of}
use Rattle.variables.specs.Masks.{has}
use Rattle.variables.specs.Table.{links_at}
use Rattle.statics.proofs.ClosureLoop.{count, waiting}
use Rattle.variables.proofs.QuestionLaws.{left_with}
use Rattle.variables.proofs.MemberLaws.{taken, none_left}
use Rattle.paths.proofs.SearchLaws.{Searching, search_goes_on, search_over, in_reach, search_stops, here_again, here_less, through_round}
use Rattle.paths.proofs.follow.search_beyond.Goals as goal
use Rattle.paths.proofs.follow.search_beyond.Goals.{In-Some, After-chain_length, After-unite-todo}

-- Where x is taken out of what is to do: it is met, and the search goes as far as its links.
reached : (w : In-Some) → (w.args.remaining ≤ length (chain_of (links_at w.args.env.now w.in-Some.x))) × (w.in-Some.x < w.args.variables)
reached w = let at = in_reach _ _ w.requires.0 _ _ w.requires.1 w.requires.2 _ _ _ _ w.loop-x.invariant _ (taken _ _ _ w.in-Some.ensures).member in (at.1, at.2)

-- Its links are counted.
long : (n : After-chain_length) → n.chain_length.result ≡ length (chain_of (links_at n.args.env.now n.in-Some.x))
long n = n.chain_length.ensures.0

pub only-first-requires : goal.only-first-requires
only-first-requires c =
    omega (arith, c.requires.0.1.1.low _ _ c.requires.1, c.requires.0.0.1)

pub bounds-env-root : goal.bounds-env-root
bounds-env-root c =
    omega (arith, c.requires.0.0.0, c.requires.0.1.1.low _ _ c.requires.1)

pub loop-x-init : goal.loop-x-init
loop-x-init c =
    search_goes_on _ _ c.requires.0 _ _ c.requires.1 c.requires.2 _ c.requires.3 _ _ _ _ _ c.only-first.ensures refl c.less-todo.ensures c.unite-met.ensures c.no_roots-ends.ensures

pub bounds-env-x : goal.bounds-env-x
bounds-env-x c =
    let at = in_reach _ _ c.requires.0 _ _ c.requires.1 c.requires.2 _ _ _ _ c.loop-x.invariant _ (taken _ _ _ c.in-Some.ensures).member in
    omega (arith, c.requires.0.0.0, at.2)

pub offset_bounds-env-x : goal.offset_bounds-env-x
offset_bounds-env-x c = omega (arith, (taken _ _ _ c.in-Some.ensures).low)

pub overflow_sub-follows : goal.overflow_sub-follows
overflow_sub-follows c =
    let at = goal.at.overflow_sub-follows c in
    omega (arith, long at.After-chain_length, (reached at.In-Some).0)

pub step_at-requires : goal.step_at-requires
step_at-requires c =
    let at = goal.at.step_at-requires c in
    (omega (arith, c.requires.0.0.0, (reached at.In-Some).1), omega (arith, long at.After-chain_length))

pub returns-in_err-step_at : goal.returns-in_err-step_at
returns-in_err-step_at c =
    search_stops _ _ c.requires.0 _ _ c.requires.1 c.requires.2 _ _ _ _ c.loop-x.invariant _ (taken _ _ _ c.in-Some.ensures).member _ _ refl c.chain_length.ensures.0 _ c.step_at.ensures _ c.in_err-step_at.was _ (left_with _ _ c.from_residual.ensures.1)

pub only-requires : goal.only-requires
only-requires c = (taken _ _ _ c.in-Some.ensures).low

pub loop-x-smaller-in-Here : goal.loop-x-smaller-in-Here
loop-x-smaller-in-Here c =
    here_less _ _ c.requires.0 _ _ c.requires.1 c.requires.2 _ _ _ _ c.loop-x.invariant _ (taken _ _ _ c.in-Some.ensures).member _ _ refl c.chain_length.ensures.0 _ c.step_at.ensures _ (taken _ _ _ c.in-Some.ensures).others (c.in_ok-step_at.was ∙ ap Ok c.in-Here.is)

pub loop-x-preserved-in-Here : goal.loop-x-preserved-in-Here
loop-x-preserved-in-Here c =
    here_again _ _ c.requires.0 _ _ c.requires.1 c.requires.2 _ _ _ _ c.loop-x.invariant _ (taken _ _ _ c.in-Some.ensures).member _ _ refl c.chain_length.ensures.0 _ c.step_at.ensures _ (taken _ _ _ c.in-Some.ensures).others (c.in_ok-step_at.was ∙ ap Ok c.in-Here.is) _ _ c.only.ensures c.unite-ends.ensures

pub bounds-env-x-in-Through : goal.bounds-env-x-in-Through
bounds-env-x-in-Through c =
    omega (arith, c.requires.0.0.0, (reached (goal.at.bounds-env-x-in-Through c).In-Some).1)

-- One round beyond the links of x: what the loop keeps holds again, and there is less to do.
beyond : (c : After-unite-todo) → Searching c.args.env.now c.args.root c.args.remaining c.args.deep c.unite-met-in-Through.result c.unite-todo.result c.loop-x.ends
    × (count (waiting (has c.unite-met-in-Through.result) (has c.unite-todo.result)) c.args.variables < count (waiting (has c.loop-x.met) (has c.loop-x.todo)) c.args.variables)
beyond c =
    through_round _ _ c.requires.0 _ _ c.requires.1 c.requires.2 _ _ _ _ c.loop-x.invariant _ (taken _ _ _ c.in-Some.ensures).member _ _ refl c.chain_length.ensures.0 _ c.step_at.ensures _ (taken _ _ _ c.in-Some.ensures).others (c.in_ok-step_at.was ∙ ap Ok c.in-Through.is) _ _ _ _ refl c.less-more.ensures c.unite-met-in-Through.ensures c.unite-todo.ensures

pub loop-x-smaller : goal.loop-x-smaller
loop-x-smaller c = (beyond (goal.at.loop-x-smaller c).After-unite-todo).1

pub loop-x-preserved : goal.loop-x-preserved
loop-x-preserved c = (beyond (goal.at.loop-x-preserved c).After-unite-todo).0

pub returns : goal.returns
returns c =
    search_over _ _ c.requires.0 _ _ c.requires.1 c.requires.2 _ _ _ _ c.loop-x.invariant (none_left _ c.in_default.ensures.0)
