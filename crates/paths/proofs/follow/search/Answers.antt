-- `paths::follow::search` meets its contract. Assumes nothing.
use Prim.Native.Nat.{ℕ}
use native.Mathlib.Omega.{arith}
use mathlib.Core.Path.{refl, ap, ◌∙◌}
use lib.ListN.{length}
use Rattle.std.specs.Prelude.{Ok}
use Rattle.variables.specs.Chains.{chain_of}
use Rattle.variables.proofs.QuestionLaws.{left_with}
use Rattle.paths.proofs.SearchLaws.{place_stops, place_ends, beyond_asks, beyond_found}
use Rattle.paths.proofs.follow.search.Goals as goal

pub step_at-requires : goal.step_at-requires
step_at-requires c = (omega (arith, c.requires.0.0.0, c.requires.0.1.1.low _ _ c.requires.1), c.requires.2)

pub bounds-env-root : goal.bounds-env-root
bounds-env-root c = omega (arith, c.requires.0.0.0, c.requires.0.1.1.low _ _ c.requires.1)

pub overflow_sub-chain_length : goal.overflow_sub-chain_length
overflow_sub-chain_length c =
    let long = c.chain_length.ensures.0 in
    omega (arith, long, c.requires.2)

pub search_beyond-requires : goal.search_beyond-requires
search_beyond-requires c =
    let step = c.step_at.ensures in
    let asks = beyond_asks _ _ c.requires.0 _ _ c.requires.1 c.requires.2 _ step _ _ refl c.chain_length.ensures.0 (c.in_ok-step_at.was ∙ ap Ok c.in-Through.is) in
    (c.requires.0, c.requires.1, asks.0, asks.1)

pub returns-in_err-step_at : goal.returns-in_err-step_at
returns-in_err-step_at c =
    place_stops _ _ c.requires.0 _ _ c.requires.1 c.requires.2 _ c.step_at.ensures _ c.in_err-step_at.was _ (left_with _ _ c.from_residual.ensures.1)

pub returns-in-Here : goal.returns-in-Here
returns-in-Here c =
    place_ends _ _ c.requires.0 _ _ c.requires.1 c.requires.2 _ c.step_at.ensures (c.in_ok-step_at.was ∙ ap Ok c.in-Here.is)

pub returns-in-Through : goal.returns-in-Through
returns-in-Through c =
    beyond_found _ _ c.requires.0 _ _ c.requires.1 c.requires.2 _ c.step_at.ensures _ _ refl c.chain_length.ensures.0 _ c.search_beyond.ensures
