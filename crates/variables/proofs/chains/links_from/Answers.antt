-- `variables::chains::links_from` meets its contract. Assumes nothing.
use Rattle.std.proofs.Common.{◌+◌, ◌-◌, sym, ◌∙◌, ap, arith}
use Rattle.variables.specs.Chains.{as_rest, rest_of}
use Rattle.variables.proofs.ChainLaws.{rest_short, rest_more, rest_end}
use Rattle.variables.proofs.chains.links_from.Goals as goal

pub returns-in_err-after : goal.returns-in_err-after
returns-in_err-after c =
    let left = c.args.k - c.loop.counter in
    ap as_rest c.from_residual.ensures ∙ sym (rest_short left (omega arith)) ∙ ap (rest_of left) (sym c.in_err-after.ensures) ∙ c.loop.invariant

pub loop-preserved : goal.loop-preserved
loop-preserved c =
    let left = c.args.k - c.loop.counter in
    rest_more left (c.args.k - (c.loop.counter + 1)) _ _ (omega arith) ∙ ap (rest_of left) (sym c.in_ok-after.ensures.0) ∙ c.loop.invariant

pub returns : goal.returns
returns c = sym (rest_end (c.args.k - c.loop.counter) _ (omega arith)) ∙ c.loop.invariant
