-- `paths::environment::is_free` meets its contract. Assumes nothing.
use mathlib.Core.Path.{sym, ap, ◌∙◌}
use borrow.Author.Tests.{le-leb}
use Rattle.statics.specs.Environment.{is_free}
use Rattle.variables.proofs.TableLaws.{slot_free, free_if, free_test, past_status}
use Rattle.paths.proofs.environment.is_free.Goals as goal

pub returns-then-variables-x : goal.returns-then-variables-x
unfolding is_free
returns-then-variables-x c = le-leb _ _ c.if-variables-x.true ∙ sym (ap is_free (slot_free _ _ (past_status _ _ c.requires _ c.if-variables-x.true)))

pub returns-else-variables-x : goal.returns-else-variables-x
returns-else-variables-x c = c.eq.ensures ∙ free_if _ ∙ free_test _ _
