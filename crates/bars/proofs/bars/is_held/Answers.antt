-- `bars::bars::is_held` meets its contract. Assumes nothing.
use Prim.Native.Nat.{◌<◌}
use mathlib.Core.Path.{sym, ◌∙◌}
use Rattle.variables.specs.Masks.{has}
use Rattle.statics.proofs.ClosureLoop.{count, waiting}
use Rattle.variables.proofs.MemberLaws.{taken, none_left}
use Rattle.bars.proofs.BarLaws.{Seeking, seek_found, seek_over, seek_round}
use Rattle.bars.proofs.bars.is_held.Goals as goal
use Rattle.bars.proofs.bars.is_held.Goals.{After-unite-left}

pub returns-then-is_member : goal.returns-then-is_member
returns-then-is_member c =
    let p = c.requires in
    let one = taken _ _ _ c.in-Some.ensures in
    λ ns later. seek_found _ _ p.0 _ _ _ p.2 _ _ c.leading_to-near.ensures _ _ c.loop-x.invariant ns later _ one.member (sym (c.held_by.ensures _) ∙ sym c.is_member.ensures ∙ c.if-is_member.true)

-- One round: what the loop keeps holds again, and there is less to do.
round : (c : After-unite-left) → Seeking c.args.env.now c.args.which c.args.root c.leading_to-near.result.all c.leading_to-near.result.named c.unite-met.result c.unite-left.result
    × (count (waiting (has c.unite-met.result) (has c.unite-left.result)) 128 < count (waiting (has c.loop-x.met) (has c.loop-x.left)) 128)
round c =
    let p = c.requires in
    let one = taken _ _ _ c.in-Some.ensures in
    seek_round _ _ p.0 _ _ _ p.2 _ _ c.leading_to-near.ensures _ _ c.loop-x.invariant _ one.member c.is_member.result (c.is_member.ensures ∙ c.held_by.ensures _) c.if-is_member.false _ _ _ _ _ _ c.held_by-holds.ensures c.less.ensures c.common-more.ensures c.unite-met.ensures one.others c.unite-left.ensures

pub loop-x-smaller : goal.loop-x-smaller
loop-x-smaller c = (round (goal.at.loop-x-smaller c).After-unite-left).1

pub loop-x-preserved : goal.loop-x-preserved
loop-x-preserved c = (round (goal.at.loop-x-preserved c).After-unite-left).0

pub returns : goal.returns
returns c =
    let p = c.requires in
    λ ns later. seek_over _ _ p.0 _ _ _ p.2 _ _ c.leading_to-near.ensures _ _ c.loop-x.invariant ns later (none_left _ c.in_default.ensures.0)
