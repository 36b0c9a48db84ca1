-- What a number of 0 says in C's form: that there is an answer. No refusal and no fault has the number 0 (LANGUAGE 5.3 to 5.6).
use Rattle.std.specs.Prelude.{ℕ, ◌≡◌, List, ℤ}
use Rattle.syntax.specs.Result.{ok}
use Rattle.syntax.specs.Limits.{Limits}
use Rattle.syntax.specs.Answers.{Told, read_of, judged_of, length_of, written_of}
use Rattle.ownership.specs.Answers.{check_of}
use Rattle.dynamics.specs.Answers as unchecked
use Rattle.dynamics.specs.Answers.{unchecked_of}
use Rattle.room.specs.Running as run
use Rattle.room.specs.Calling as call
use Rattle.c_answers.specs.declared.answers.Run.{Run}
use Rattle.c_answers.specs.declared.answers.Call.{Call}
use Rattle.c_answers.specs.Answers.{script_in, terms_in, bytes_in, ran_in, unchecked_in, called_in, SafeRunInC, SafeCallInC}

-- Under a set, on every input; of a run and a call, of every answer that the clause `safe` of their contracts allows (SafeRunInC, SafeCallInC):
-- what safety says of an answer then holds.
pub record NumberTells (l : Limits) : Type 0 where
  pub reads : (n : ℕ) (script rows : List ℕ) → (script_in (read_of l n script rows).0).number ≡ 0 → (t : Told) × ((read_of l n script rows).0 ≡ ok t)
  pub judges : (rows : List ℕ) → (terms_in (judged_of l rows)).number ≡ 0 → (t : ℕ) × (judged_of l rows ≡ ok t)
  pub tells_length : (v : ℕ) (rows : List ℕ) → (bytes_in (length_of l v rows)).number ≡ 0 → (b : ℕ) × (length_of l v rows ≡ ok b)
  pub writes : (v : ℕ) (rows output : List ℕ) → (bytes_in (written_of l v rows output).0).number ≡ 0 → (b : ℕ) × ((written_of l v rows output).0 ≡ ok b)
  pub checks : (rows : List ℕ) → (terms_in (check_of l rows)).number ≡ 0 → (t : ℕ) × (check_of l rows ≡ ok t)
  pub runs : (rows : List ℕ) (readings : List ℤ) (r : Run) (before after : List ℕ) → SafeRunInC l rows readings r before after → r.number ≡ 0
      → (a : ℤ) × (c : ℕ) × (r ≡ ran_in (run.answered a c)) × run.SafeRun l rows readings (run.answered a c) before after
  pub runs_unchecked : (rows : List ℕ) (readings : List ℤ) (store : List ℕ) → (unchecked_in (unchecked_of l rows readings store).0).number ≡ 0
      → (a : ℤ) × (c : ℕ) × ((unchecked_of l rows readings store).0 ≡ unchecked.answered a c)
  pub calls : (script : List ℕ) (readings : List ℤ) (rows : List ℕ) (r : Call) (before after : List ℕ)
      → SafeCallInC l script readings rows r before after → r.number ≡ 0
      → (n : ℕ) × (a : ℤ) × (c : ℕ) × (r ≡ called_in (call.called n a c)) × call.SafeCall l script readings rows (call.called n a c) before after
