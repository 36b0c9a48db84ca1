-- What `run` answers and leaves in the store on every input (LANGUAGE 6.6), and what safety (7.4) says of it.
use Rattle.std.specs.Prelude.{ℕ, ◌≤◌, ◌≡◌, ◌⊎◌, List, ℤ}
use Rattle.std.specs.Prelude as prelude
use Rattle.std.specs.Int.{w32}
use Rattle.std.proofs.Common.{to_z}
use Rattle.syntax.specs.Result.{Result, ok, err, Refusal, ◌>>=◌}
use Rattle.syntax.specs.Refusals.{number_of}
use Rattle.syntax.specs.declared.refusals.Refusal as answer
use Rattle.syntax.specs.Limits.{Limits, store_rows}
use Rattle.syntax.specs.Script.{Term}
use Rattle.syntax.specs.Answers.{rows_tree}
use Rattle.statics.specs.Judge.{judge_script}
use Rattle.dynamics.specs.Values.{closed}
use Rattle.dynamics.specs.Store.{Store, State, Ran}
use Rattle.dynamics.specs.Run.{run_script}
use Rattle.dynamics.specs.Encode.{encode}
use Rattle.dynamics.specs.Answers.{runnable}
use Rattle.dynamics.specs.Readings.{bits_of}
use Rattle.safety.specs.Safety.{Safe, tidy_store}
use Rattle.machine.specs.declared.Ran as machine

-- The answer and the cells taken; or the refusal's number and its place.
pub data RunAnswer : Type 0 where
  answered : ℤ → ℕ → RunAnswer
  refused : ℕ → ℕ → RunAnswer

-- The numbers and values of each case of the code's answer. No case is a fault.
unfoldable pub told_run : prelude.Result machine.Ran answer.Refusal → RunAnswer
told_run (prelude.Ok r) = answered r.answer r.cells
told_run (prelude.Err r) = refused (number_of r.reason) r.place

-- The script that is to run (LANGUAGE 5.7): 74, 2 to 4 and 12 to 19 as for a run that is not checked, then 30 to 43.
unfoldable pub checked_first : Limits → List ℕ → List ℤ → List ℕ → Result Refusal Term
checked_first l rows readings store =
    runnable l rows readings store >>= λ t.
    judge_script l.variables t >>= λ _.
    ok t

-- The answer, and the store afterwards.
abbrev pub RunMade : Type 0
RunMade = RunAnswer × List ℕ

-- The store is as the run left it (LANGUAGE 6.6). An accepted script does not come to a fault (7.4), so the second clause never occurs.
unfoldable pub ended_into : Limits → Ran (State × ℕ) → RunMade
ended_into l (ok e) = (answered (to_z w32 e.1) e.0.taken, encode l.variables (store_rows l) e.0.store)
ended_into l (err f) = (refused f.number f.term, encode l.variables (store_rows l) f.state.store)

-- A refusal leaves the store as it was (LANGUAGE 6.6). A run first clears it (4.4), so its result is the same for
-- every earlier store; here all its rows are closed.
unfoldable pub checked_into : Limits → List ℤ → List ℕ → Result Refusal Term → RunMade
checked_into l readings store (ok t) = ended_into l (run_script (bits_of readings) t (λ x. closed))
checked_into l readings store (err e) = (refused e.0 e.1, store)

-- `run` (LANGUAGE 6.6): the answer and the store.
unfoldable pub run_of : Limits → List ℕ → List ℤ → List ℕ → RunMade
run_of l rows readings store = checked_into l readings store (checked_first l rows readings store)

-- The numbers of `run`'s refusals (LANGUAGE 6.1): none is one of 60 to 63.
abbrev pub RunNumber : ℕ → Type 0
RunNumber n = (n ≡ 74) ⊎ ((2 ≤ n) × (n ≤ 4)) ⊎ ((12 ≤ n) × (n ≤ 19)) ⊎ ((30 ≤ n) × (n ≤ 43))

-- The safety of accepted scripts (LANGUAGE 7.4) as `run` gives it, on every input.
pub record SafeRun (l : Limits) (rows : List ℕ) (readings : List ℤ) (r : RunAnswer) (before after : List ℕ) : Type 0 where
  -- The run of the script in the rows, if it is accepted, is safe, whatever the store was before: it meets none of 60 to 63.
  pub safe : (t : Term) → rows_tree l rows ≡ ok t → judge_script l.variables t ≡ ok tt → (earlier : Store) → Safe l t (bits_of readings) earlier
  -- An answer is what such a run comes to, with its cells, and the store is tidy.
  pub answers : (a : ℤ) (c : ℕ) → r ≡ answered a c
      → (t : Term) × (checked_first l rows readings before ≡ ok t) × (s : Safe l t (bits_of readings) (λ x. closed)) × (a ≡ to_z w32 s.answer) × (c ≡ s.final.taken)
  pub tidy : (a : ℤ) (c : ℕ) → r ≡ answered a c → after ≡ tidy_store l c
  -- A refusal was met before anything ran, so that it is no fault, and the store is as it was.
  pub refuses : (n p : ℕ) → r ≡ refused n p → checked_first l rows readings before ≡ err (n, p)
  pub numbers : (n p : ℕ) → r ≡ refused n p → RunNumber n
  pub untouched : (n p : ℕ) → r ≡ refused n p → after ≡ before
