-- The answers of the code, case by case (LANGUAGE 5.2).
use Rattle.std.specs.Prelude.{Result, Ok, Err}
use Rattle.syntax.specs.Refusals.{number_of}
use Rattle.syntax.specs.declared.refusals.Refusal.{Refusal}
use Rattle.machine.specs.declared.Ran.{Ran}
use Rattle.machine.specs.declared.Stopped.{Stopped}
use Rattle.machine.specs.declared.Stopped.TheVariants as stopped
use Rattle.dynamics.specs.Answers.{Answer, answered, refused, faulted}

-- What a run that began says: the answer and the cells taken, or a fault and its term.
unfoldable pub told_ran : Result Ran Refusal → Answer
told_ran (Ok r) = answered r.answer r.cells
told_ran (Err e) = faulted (number_of e.reason) e.place

-- Each case of the code's answer, with its number and values (LANGUAGE 6.7).
unfoldable pub told_unchecked : Result Ran Stopped → Answer
told_unchecked (Ok r) = answered r.answer r.cells
told_unchecked (Err (stopped.Refused e)) = refused (number_of e.reason) e.place
told_unchecked (Err (stopped.Faulted e)) = faulted (number_of e.reason) e.place
