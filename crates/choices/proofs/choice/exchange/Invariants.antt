use mathlib.Core.Path.{◌≡◌}
use lib.ListN.{length}
use Rattle.variables.specs.Table.{TableFor}
use Rattle.choices.proofs.ChoiceLaws.{Exchanging}
use Rattle.choices.proofs.choice.exchange.Given as goal

abbrev pub invariant-loop-x : goal.invariant-loop-x
invariant-loop-x l = (length l.env ≡ length l.initial.env) × (length l.kept ≡ length l.initial.kept) × TableFor l.env l.variables × Exchanging l.initial.env l.initial.kept l.x l.env l.kept
