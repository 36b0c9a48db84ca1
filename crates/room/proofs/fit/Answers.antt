-- `room::fit` meets its contract. Assumes nothing.
use mathlib.Core.Path.{refl, sym, ◌∙◌}
use borrow.Author.Tests.{lt-leb, le-leb}
use Rattle.syntax.specs.Result.{need, ◌>>=◌}
use Rattle.syntax.specs.Limits.{max_bytes}
use Rattle.syntax.specs.Answers.{lengths_fit}
use Rattle.dynamics.specs.Answers.{run_fits}
use Rattle.machine.specs.ScriptParts.{fit_of}
use Rattle.room.specs.Calling.{call_fits}
use Rattle.room.proofs.CallLaws.{as_run}
use Rattle.room.proofs.fit.Goals as goal

pub returns-then-not-in_ranges : goal.returns-then-not-in_ranges
unfolding call_fits lengths_fit need ◌>>=◌
returns-then-not-in_ranges c = rw (← c.in_ranges.ensures, c.if-not-in_ranges.true) refl

pub returns-then-script-gt-BYTES : goal.returns-then-script-gt-BYTES
unfolding call_fits lengths_fit need ◌>>=◌ max_bytes
returns-then-script-gt-BYTES c = rw (← c.in_ranges.ensures, c.if-not-in_ranges.false, lt-leb _ _ c.if-script-gt-BYTES.true) refl

pub returns : goal.returns
unfolding fit_of run_fits max_bytes
returns c = c.fit.ensures ∙ sym (as_run _ _ _ _ _ (sym c.in_ranges.ensures ∙ c.if-not-in_ranges.false) (le-leb _ _ c.if-script-gt-BYTES.false))
