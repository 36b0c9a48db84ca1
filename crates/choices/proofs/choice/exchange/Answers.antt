-- `choices::choice::exchange` meets its contract. The loop: the numbers before x have the state kept, and theirs is kept; from x on all is as at
-- first. Assumes nothing.
use native.Mathlib.Omega.{arith}
use mathlib.Core.Path.{subst, ◌∙◌}
use lib.ListN.{length-set}
use Rattle.choices.proofs.ChoiceLaws.{Exchanging, exchanging_next, restored_is}
use Rattle.choices.proofs.choice.exchange.Goals as goal

pub loop-x-preserved : goal.loop-x-preserved
loop-x-preserved c =
    let S = c.exchange_one.ensures in
    (c.exchange_one.auto.env ∙ c.loop-x.invariant.0, simp length-set c.loop-x.invariant.1, S.given.table, exchanging_next _ _ _ _ c.loop-x.env c.loop-x.kept c.exchange_one.new.env _ (omega (arith, c.loop-x-test.true, c.requires.2, c.loop-x.invariant.1)) S c.loop-x.invariant.3)

pub returns : goal.returns
returns c =
    let E = subst (λ x. Exchanging c.args.env.now c.args.kept.now x c.loop-x.env c.loop-x.kept) (omega (arith, c.loop-x-test.false, c.loop-x.auto.x-end)) c.loop-x.invariant.3 in
    (λ Γ level N K S. restored_is _ level _ _ _ _ _ E _ c.requires.0.1.1 Γ N K S, c.loop-x.invariant.2, c.loop-x.invariant.3.giving.links)
