-- `variables::roots::without` meets its contract. Assumes nothing.
use mathlib.Core.Path.{ap, ◌∙◌}
use mathlib.Core.Bool.{Bool, false}
use Rattle.syntax.specs.Result.{pick}
use Rattle.variables.specs.Masks.{has}
use Rattle.variables.proofs.roots.without.Goals as goal

pub returns : goal.returns
returns c y = c.less.ensures y ∙ ap (λ (b : Bool). pick b false (has c.before.before.args.s y)) (c.before.only.ensures y)
