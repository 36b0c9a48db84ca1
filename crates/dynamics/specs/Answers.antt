-- What `run_unchecked` answers, and what it leaves in the store, on every input (LANGUAGE 6.7).
use Rattle.std.specs.Prelude.{ℕ, List, eqb, ℤ, length}
use Rattle.std.specs.Int.{w32}
use Rattle.std.proofs.Common.{to_z}
use Rattle.syntax.specs.Result.{Result, ok, err, Refusal, need, ◌>>=◌}
use Rattle.syntax.specs.Limits.{Limits, store_rows, store_numbers}
use Rattle.syntax.specs.Script.{Term}
use Rattle.syntax.specs.Reader.{decode}
use Rattle.syntax.specs.Answers.{set_fits, rows_fit}
use Rattle.dynamics.specs.Values.{closed}
use Rattle.dynamics.specs.Store.{State, Ran}
use Rattle.dynamics.specs.Run.{run_script}
use Rattle.dynamics.specs.Encode.{encode}
use Rattle.dynamics.specs.Readings.{bits_of}

-- The answer (LANGUAGE 4.20) and the cells taken (4.22); a refusal and its place; a fault and its term (5.1, 5.2).
pub data Answer : Type 0 where
  answered : ℤ → ℕ → Answer
  refused faulted : ℕ → ℕ → Answer

-- The answer, and the store afterwards.
abbrev pub AnswerAndStore : Type 0
AnswerAndStore = Answer × List ℕ

-- 74 for the set, then 2, 3 and 4: the lengths of rows, store and readings (LANGUAGE 5.3), the lowest first (5.8).
unfoldable pub run_fits : Limits → List ℕ → List ℤ → List ℕ → Result Refusal (Unit {0})
run_fits l rows readings store =
    set_fits l >>= λ _.
    rows_fit l rows >>= λ _.
    need (eqb (length store) (store_numbers l)) (3, 0) >>= λ _.
    need (eqb (length readings) 8) (4, 0)

-- The script that is to run: 74, 2 to 4, then 12 to 19 (LANGUAGE 5.7).
unfoldable pub runnable : Limits → List ℕ → List ℤ → List ℕ → Result Refusal Term
runnable l rows readings store =
    run_fits l rows readings store >>= λ _.
    decode l rows

-- The store as the run left it, after a fault too (LANGUAGE 4.21, 6.7).
unfoldable pub ran_into : Limits → Ran (State × ℕ) → AnswerAndStore
ran_into l (ok e) = (answered (to_z w32 e.1) e.0.taken, encode l.variables (store_rows l) e.0.store)
ran_into l (err f) = (faulted f.number f.term, encode l.variables (store_rows l) f.state.store)

-- A refusal leaves the store as it was (LANGUAGE 6.7). A run first clears it (4.4), so its result is the same for
-- every earlier store; here all its rows are closed.
unfoldable pub run_into : Limits → List ℤ → List ℕ → Result Refusal Term → AnswerAndStore
run_into l readings store (ok t) = ran_into l (run_script (bits_of readings) t (λ x. closed))
run_into l readings store (err e) = (refused e.0 e.1, store)

-- `run_unchecked` (LANGUAGE 6.7): the answer and the store.
unfoldable pub unchecked_of : Limits → List ℕ → List ℤ → List ℕ → AnswerAndStore
unchecked_of l rows readings store = run_into l readings store (runnable l rows readings store)
