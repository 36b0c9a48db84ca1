-- Answers in C's form, field by field: number and place of the refusal or fault, both 0 where there is none; of an unchecked run whether it is a
-- fault; the values of the answer, all 0 where there is none.
use Rattle.std.specs.Prelude.{ℕ, ◌≡◌, List, ℤ, pos}
use Rattle.syntax.specs.Result.{Result, ok, err, Refusal}
use Rattle.syntax.specs.Limits.{Limits}
use Rattle.syntax.specs.Answers.{Told}
use Rattle.dynamics.specs.Answers as unchecked
use Rattle.room.specs.Running as run
use Rattle.room.specs.Calling as call
use Rattle.c_answers.specs.declared.answers.Script.{Script}
use Rattle.c_answers.specs.declared.answers.Terms.{Terms}
use Rattle.c_answers.specs.declared.answers.Bytes.{Bytes}
use Rattle.c_answers.specs.declared.answers.Run.{Run}
use Rattle.c_answers.specs.declared.answers.RunUnchecked.{RunUnchecked}
use Rattle.c_answers.specs.declared.answers.Call.{Call}

unfoldable pub script_in : Result Refusal Told → Script
script_in (ok t) = record { number = 0; place = 0; version = t.0; terms = t.1 }
script_in (err e) = record { number = e.0; place = e.1; version = 0; terms = 0 }

unfoldable pub terms_in : Result Refusal ℕ → Terms
terms_in (ok n) = record { number = 0; place = 0; terms = n }
terms_in (err e) = record { number = e.0; place = e.1; terms = 0 }

unfoldable pub bytes_in : Result Refusal ℕ → Bytes
bytes_in (ok n) = record { number = 0; place = 0; bytes = n }
bytes_in (err e) = record { number = e.0; place = e.1; bytes = 0 }

unfoldable pub ran_in : run.RunAnswer → Run
ran_in (run.answered a c) = record { number = 0; place = 0; answer = a; cells = c }
ran_in (run.refused n p) = record { number = n; place = p; answer = pos 0; cells = 0 }

unfoldable pub unchecked_in : unchecked.Answer → RunUnchecked
unchecked_in (unchecked.answered a c) = record { number = 0; place = 0; fault = 0; answer = a; cells = c }
unchecked_in (unchecked.refused n p) = record { number = n; place = p; fault = 0; answer = pos 0; cells = 0 }
unchecked_in (unchecked.faulted n i) = record { number = n; place = i; fault = 1; answer = pos 0; cells = 0 }

unfoldable pub called_in : call.CallAnswer → Call
called_in (call.called t a c) = record { number = 0; place = 0; terms = t; answer = a; cells = c }
called_in (call.refused n p) = record { number = n; place = p; terms = 0; answer = pos 0; cells = 0 }

-- The answer in C's form, beside the lent memory afterwards.
abbrev pub in_c : {A B M : Type 0} → (A → B) → A × M → B × M
in_c form r = (form r.0, r.1)

-- What `SafeRun` and `SafeCall` say (LANGUAGE 7.4), of the answer that C's fields stand for: their number tells which case it is (`Numbers`).
abbrev pub SafeRunInC : Limits → List ℕ → List ℤ → Run → List ℕ → List ℕ → Type 0
SafeRunInC l rows readings r before after = (m : run.RunAnswer) × (r ≡ ran_in m) × run.SafeRun l rows readings m before after

abbrev pub SafeCallInC : Limits → List ℕ → List ℤ → List ℕ → Call → List ℕ → List ℕ → Type 0
SafeCallInC l script readings rows r before after = (m : call.CallAnswer) × (r ≡ called_in m) × call.SafeCall l script readings rows m before after
