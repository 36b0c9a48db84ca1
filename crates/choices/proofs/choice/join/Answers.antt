-- `choices::choice::join` meets its contract. The loop: the numbers before x are joined with what was kept, from x on all is as at first.
-- Assumes nothing.
use native.Mathlib.Omega.{arith}
use mathlib.Core.Path.{subst, ◌∙◌}
use Rattle.choices.proofs.ChoiceLaws.{Joining, joining_next, joined_is}
use Rattle.choices.proofs.choice.join.Goals as goal

pub loop-x-preserved : goal.loop-x-preserved
loop-x-preserved c =
    let G = c.join_one.ensures in
    (c.join_one.auto.env ∙ c.loop-x.invariant.0, G.table, joining_next _ _ _ _ c.loop-x.env c.join_one.new.env G c.loop-x.invariant.2)

pub returns : goal.returns
returns c =
    let J = subst (λ x. Joining c.args.env.now c.args.kept.now x c.loop-x.env) (omega (arith, c.loop-x-test.false, c.loop-x.auto.x-end)) c.loop-x.invariant.2 in
    (λ Γ Γ₁ level N K S₁ S₂. joined_is _ level _ _ _ _ J Γ Γ₁ N K S₁ S₂, c.loop-x.invariant.1, c.loop-x.invariant.2.links)
