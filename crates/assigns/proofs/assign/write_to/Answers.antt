-- `assigns::assign::write_to` meets its contract. Assumes nothing.
use Prim.Native.Nat.{◌<◌, ◌^◌}
use native.Mathlib.Omega.{arith}
use mathlib.Core.Path.{sym, ◌∙◌}
use Rattle.rules.proofs.WriteLaws.{written_none, written_one, written_several}
use Rattle.assigns.proofs.assign.write_to.Goals as goal

pub returns-then-is_empty : goal.returns-then-is_empty
returns-then-is_empty c =
    (written_none _ c.args.env.now _ _ _ c.requires.1 (sym c.is_empty.ensures ∙ c.if-is_empty.true), c.requires.0)

pub lowest-x-requires : goal.lowest-x-requires
lowest-x-requires c = sym c.is_empty.ensures ∙ c.if-is_empty.false

pub refill-requires : goal.refill-requires
refill-requires c = (c.requires.0, c.requires.1 _ c.lowest-x.ensures.0)

pub returns-then-is_empty-2 : goal.returns-then-is_empty-2
returns-then-is_empty-2 c =
    (written_one _ _ _ _ _ c.requires.1 _ _ c.lowest-x.ensures.0 c.without.ensures (sym c.is_empty-2.ensures ∙ c.if-is_empty-2.true) c.refill.ensures.0 c.refill.ensures.2, c.refill.ensures.1)

pub returns-else-is_empty-2 : goal.returns-else-is_empty-2
returns-else-is_empty-2 c =
    let rest = c.without.result in
    let low : c.without.result.low < 2 ^ 64 = omega arith in
    let high : rest.high < 2 ^ 64 = omega arith in
    (written_several _ _ _ _ _ c.requires.1 rest _ c.lowest-x.ensures.0 c.without.ensures low high (sym c.is_empty-2.ensures ∙ c.if-is_empty-2.false) c.widen_all.ensures.0, c.widen_all.ensures.1)
