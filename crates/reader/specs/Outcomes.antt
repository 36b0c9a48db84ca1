-- The answer of reading as a result (LANGUAGE 5.2).
use Rattle.std.specs.Prelude as prelude
use Rattle.syntax.specs.Result.{Result, Refusal}
use Rattle.syntax.specs.Refusals.{told}
use Rattle.syntax.specs.declared.refusals.Refusal as answer
use Rattle.script_reader.specs.declared.script.Script.{Script}
use Rattle.syntax.specs.Answers.{Told}

-- Version and number of terms, or the refusal and its place (LANGUAGE 5.2), for each case of what reading answers.
abbrev pub told_read : prelude.Result Script answer.Refusal → Result Refusal Told
told_read r = told (λ (s : Script). (s.version, s.terms)) r
