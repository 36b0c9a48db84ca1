-- `variables::chains::with_first` meets its contract. Assumes nothing.
use Rattle.std.proofs.Common.{arith}
use Rattle.variables.proofs.ChainLaws.{digit_is, fits_below}
use Rattle.variables.proofs.chains.with_first.Goals as goal

pub overflow_mul-result : goal.overflow_mul-result
overflow_mul-result c = omega (arith, fits_below _ c.requires)

pub overflow_add-result-2 : goal.overflow_add-result-2
overflow_add-result-2 c = omega (arith, fits_below _ c.requires, (digit_is c.args.link).0)

pub returns : goal.returns
returns c = (digit_is c.args.link).1 c.args.links
