-- `syntax::progress::Progress::pass` meets its contract. Assumes nothing.
use mathlib.Core.Path.{sym, ◌∙◌}
use Rattle.syntax.specs.Parts.{boxes_with}
use Rattle.syntax.proofs.KindTests.{box_test}
use Rattle.syntax.proofs.progress.Progress.pass.Goals as goal

pub returns-then-eq : goal.returns-then-eq
unfolding boxes_with
returns-then-eq c = rw (sym (box_test _) ∙ sym c.if-eq.ensures)

pub returns-else-eq : goal.returns-else-eq
unfolding boxes_with
returns-else-eq c = rw (sym (box_test _) ∙ sym c.if-eq.ensures)
