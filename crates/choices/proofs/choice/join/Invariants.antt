use mathlib.Core.Path.{◌≡◌}
use lib.ListN.{length}
use Rattle.variables.specs.Table.{TableFor}
use Rattle.choices.proofs.ChoiceLaws.{Joining}
use Rattle.choices.proofs.choice.join.Given as goal

abbrev pub invariant-loop-x : goal.invariant-loop-x
invariant-loop-x l = (length l.env ≡ length l.initial.env) × TableFor l.env l.variables × Joining l.initial.env l.kept l.x l.env
