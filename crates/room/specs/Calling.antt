-- What `call` answers and leaves in lent memory on every input (LANGUAGE 6.8), and what safety (7.4) says of it.
use Rattle.std.specs.Prelude.{ℕ, ◌+◌, ◌*◌, ◌≤◌, ◌≡◌, ◌⊎◌, List, leb, ℤ, pos, length, get_or}
use Rattle.std.specs.Prelude as prelude
use Rattle.std.specs.Int.{w32}
use Rattle.std.proofs.Common.{to_z}
use Rattle.syntax.specs.Result.{Result, ok, err, Refusal, pick, ◌>>=◌}
use Rattle.syntax.specs.Refusals.{number_of}
use Rattle.syntax.specs.declared.refusals.Refusal as answer
use Rattle.syntax.specs.Limits.{Limits}
use Rattle.syntax.specs.Kinds.{newest}
use Rattle.syntax.specs.Script.{Term, Whole}
use Rattle.syntax.specs.Reader.{parse}
use Rattle.syntax.specs.Measures.{size}
use Rattle.syntax.specs.Answers.{Told, lengths_fit, read_of}
use Rattle.statics.specs.Judge.{judge_script}
use Rattle.dynamics.specs.Values.{closed}
use Rattle.dynamics.specs.Store.{Store}
use Rattle.safety.specs.Safety.{Safe, tidy_store}
use Rattle.dynamics.specs.Answers.{run_fits}
use Rattle.dynamics.specs.Readings.{bits_of}
use Rattle.room.specs.Running as running
use Rattle.room.specs.Running.{RunAnswer, RunMade, run_of}
use Rattle.room.specs.declared.Called.{Called}

-- The terms, the answer and the cells taken; or the refusal's number and its place.
pub data CallAnswer : Type 0 where
  called : ℕ → ℤ → ℕ → CallAnswer
  refused : ℕ → ℕ → CallAnswer

-- The numbers and values of each case of the code's answer. No case is a fault.
unfoldable pub told_call : prelude.Result Called answer.Refusal → CallAnswer
told_call (prelude.Ok r) = called r.terms r.answer r.cells
told_call (prelude.Err r) = refused (number_of r.reason) r.place

-- The answer, the rows and the store afterwards.
abbrev pub CallMade : Type 0
CallMade = CallAnswer × (List ℕ × List ℕ)

-- The caller's numbers (LANGUAGE 5.3), all at place 0: 74, 1 and 2 as reading has them, then 3 and 4 as running has them, so that 74 goes before
-- every other and then the lowest (5.8).
unfoldable pub call_fits : Limits → List ℕ → List ℤ → List ℕ → List ℕ → Result Refusal (Unit {0})
call_fits l script readings rows store =
    lengths_fit l script rows >>= λ _.
    run_fits l rows readings store

-- A run's answer, with the number of terms that reading told.
unfoldable pub with_terms : ℕ → RunAnswer → CallAnswer
with_terms n (running.answered a c) = called n a c
with_terms n (running.refused m p) = refused m p

abbrev pub run_called : ℕ → List ℕ → RunMade → CallMade
run_called n rows made = (with_terms n made.0, (rows, made.1))

-- What reading answered and left in the rows (LANGUAGE 6.2), and then `run` on these (6.6), which leaves them as they are, also where it refuses
-- them. A script that is not read does not run, and the store is as it was.
unfoldable pub read_called : Limits → List ℤ → List ℕ → Result Refusal Told → List ℕ → CallMade
read_called l readings store (ok t) rows = run_called t.1 rows (run_of l rows readings store)
read_called l readings store (err e) rows = (refused e.0 e.1, (rows, store))

-- 74 and 1 to 4 change no lent memory (LANGUAGE 5.3).
unfoldable pub fit_called : Result Refusal (Unit {0}) → List ℕ → List ℕ → CallMade → CallMade
fit_called (ok u) rows store made = made
fit_called (err e) rows store made = (refused e.0 e.1, (rows, store))

-- `call` is `read`, of every version that there is, and then `run`, once all lengths fit: the answer, the rows and the store.
unfoldable pub call_of : Limits → List ℕ → List ℤ → List ℕ → List ℕ → CallMade
call_of l script readings rows store =
    fit_called (call_fits l script readings rows store) rows store
    (read_called l readings store (read_of l newest script rows).0 (read_of l newest script rows).1)

-- What is judged before the run of a call (LANGUAGE 5.7), with the script that is to run: 74 and 1 to 4, then 10 to 19, then 30 to 43.
unfoldable pub read_first : Limits → List ℕ → List ℤ → List ℕ → List ℕ → Result Refusal Term
read_first l script readings rows store =
    call_fits l script readings rows store >>= λ _.
    parse l newest script >>= λ w.
    judge_script l.variables w.term >>= λ _.
    ok w.term

-- The numbers of a call's refusals (LANGUAGE 6.1): none is one of 60 to 63.
abbrev pub CallNumber : ℕ → Type 0
CallNumber n = (n ≡ 74) ⊎ ((1 ≤ n) × (n ≤ 4)) ⊎ ((10 ≤ n) × (n ≤ 19)) ⊎ ((30 ≤ n) × (n ≤ 43))

-- The safety of accepted scripts (LANGUAGE 7.4), from the bytes on, on every input: as for a run, with the terms of the script that was read.
pub record SafeCall (l : Limits) (script : List ℕ) (readings : List ℤ) (rows : List ℕ) (r : CallAnswer) (before after : List ℕ) : Type 0 where
  pub safe : (w : Whole) → parse l newest script ≡ ok w → judge_script l.variables w.term ≡ ok tt → (earlier : Store) → Safe l w.term (bits_of readings) earlier
  pub answers : (n : ℕ) (a : ℤ) (c : ℕ) → r ≡ called n a c
      → (t : Term) × (read_first l script readings rows before ≡ ok t) × (n ≡ size t) × (s : Safe l t (bits_of readings) (λ x. closed)) × (a ≡ to_z w32 s.answer) × (c ≡ s.final.taken)
  pub tidy : (n : ℕ) (a : ℤ) (c : ℕ) → r ≡ called n a c → after ≡ tidy_store l c
  pub refuses : (n p : ℕ) → r ≡ refused n p → read_first l script readings rows before ≡ err (n, p)
  pub numbers : (n p : ℕ) → r ≡ refused n p → CallNumber n
  pub untouched : (n p : ℕ) → r ≡ refused n p → after ≡ before

-- A reading of the program's input (LANGUAGE 6.10): four bytes from `at` on, high byte first; 0 where there are not four.
unfoldable pub reading_at : List ℕ → ℕ → ℤ
reading_at input at =
    pick (leb (at + 4) (length input))
    (to_z w32 (get_or input at 0 * 16777216 + get_or input (at + 1) 0 * 65536 + get_or input (at + 2) 0 * 256 + get_or input (at + 3) 0))
    (pos 0)
