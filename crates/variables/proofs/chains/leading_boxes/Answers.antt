-- `variables::chains::leading_boxes` meets its contract. Assumes nothing.
use Rattle.std.proofs.Common.{sym, ◌∙◌, ap, arith}
use Rattle.statics.specs.Links.{leading_boxes}
use Rattle.variables.specs.Chains.{chain_of}
use Rattle.variables.proofs.ChainLaws.{differs_box, boxes_none, boxes_more, boxes_end}
use Rattle.variables.proofs.chains.leading_boxes.Goals as goal

pub returns-then-ne : goal.returns-then-ne
returns-then-ne c =
    let other = sym (differs_box c.in-Some.link) ∙ sym c.ne.ensures ∙ c.if-ne.true in
    (omega (arith, ap leading_boxes c.in-Some.ensures.0, boxes_end c.in-Some.link (chain_of c.in-Some.after) other), omega arith)

pub loop-link-preserved : goal.loop-link-preserved
loop-link-preserved c =
    let box = sym (differs_box c.in-Some.link) ∙ sym c.ne.ensures ∙ c.if-ne.false in
    (omega (arith, ap leading_boxes c.in-Some.ensures.0, boxes_more c.in-Some.link (chain_of c.in-Some.after) box), omega (arith, c.in-Some.ensures.1))

pub returns : goal.returns
returns c = (omega (arith, ap leading_boxes c.in_default.ensures, boxes_none), omega arith)
