-- `variables::verdicts::number_value` meets its contract. Assumes nothing.
use native.Mathlib.Omega.{arith}
use mathlib.Core.Path.{◌∙◌}
use Rattle.statics.specs.Environment.{borrow_end}
use Rattle.variables.proofs.ChainLaws.{chain_none}
use Rattle.variables.proofs.verdicts.number_value.Goals as goal

pub returns : goal.returns
unfolding borrow_end
returns c = λ env i. c.value_of.ensures env i ∙ rw (chain_none 0 (omega arith))
