use native.Mathlib.Omega.{arith}
use mathlib.Core.Path.{refl, ap}
use lib.ListN.{length}
use Rattle.program.proofs.LineLaws.{decimal_one, decimal_tenth, digit_put, digits_put}
use Rattle.program.proofs.line.Text.+push_decimal.Goals as goal

pub push-requires : goal.push-requires
push-requires t c = omega (arith, c.requires, ap length (decimal_one _ c.if-n-lt10.true))

pub returns-then-n-lt10 : goal.returns-then-n-lt10
returns-then-n-lt10 t c = digit_put _ _ c.if-n-lt10.true refl c.push.ensures

pub push_decimal-requires : goal.push_decimal-requires
push_decimal-requires t c = (omega (arith, c.decreases), omega (arith, c.requires, decimal_tenth _ c.if-n-lt10.false))

pub push-requires-2 : goal.push-requires-2
push-requires-2 t c = omega (arith, c.requires, c.push_decimal.ensures.ends, decimal_tenth _ c.if-n-lt10.false)

pub returns : goal.returns
returns t c = digits_put _ _ c.if-n-lt10.false refl c.push_decimal.ensures c.push-2.ensures
