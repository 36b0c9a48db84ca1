-- What `run` and `run_unchecked` do with rows, by what `check` answers of them (LANGUAGE 6.5 to 6.7): the safety of accepted scripts (7.4) from
-- the check's answer on.
use Rattle.std.specs.Prelude.{ℕ, ◌≡◌, List, ℤ, length}
use Rattle.std.specs.Int.{w32}
use Rattle.std.proofs.Common.{to_z}
use Rattle.syntax.specs.Result.{ok, err, Refusal}
use Rattle.syntax.specs.Limits.{Limits, store_numbers}
use Rattle.syntax.specs.Script.{Term}
use Rattle.syntax.specs.Reader.{decode}
use Rattle.syntax.specs.Measures.{size}
use Rattle.syntax.specs.Within.{Under}
use Rattle.ownership.specs.Answers.{check_of}
use Rattle.dynamics.specs.Store.{Store}
use Rattle.dynamics.specs.Answers as unchecked
use Rattle.dynamics.specs.Readings.{bits_of}
use Rattle.dynamics.specs.Answers.{unchecked_of}
use Rattle.safety.specs.Safety.{Safe, tidy_store}
use Rattle.room.specs.Running.{answered, refused, run_of}

-- The rows are those of a script of n terms. Its run is safe whatever the store was before; checked first or not, it answers what that run
-- answers, with the cells that it took, and leaves the tidy store.
pub record AcceptedRun (l : Limits) (rows : List ℕ) (n : ℕ) (readings : List ℤ) (store : List ℕ) : Type 0 where
  pub script : Term
  pub decodes : decode l rows ≡ ok script
  pub terms : n ≡ size script
  pub safe : (earlier : Store) → Safe l script (bits_of readings) earlier
  pub answer : ℤ
  pub cells : ℕ
  pub its_answer : (earlier : Store) → answer ≡ to_z w32 (safe earlier).answer
  pub its_cells : (earlier : Store) → cells ≡ (safe earlier).final.taken
  pub ran : run_of l rows readings store ≡ (answered answer cells, tidy_store l cells)
  pub ran_unchecked : unchecked_of l rows readings store ≡ (unchecked.answered answer cells, tidy_store l cells)

-- `Under` says that the numbers are u32, as in every lent slice.
abbrev pub AcceptedRuns : Limits → Type 0
AcceptedRuns l =
    (rows : List ℕ) (n : ℕ) → Under 4294967296 rows → check_of l rows ≡ ok n
    → (readings : List ℤ) (store : List ℕ) → length readings ≡ 8 → length store ≡ store_numbers l
    → AcceptedRun l rows n readings store

-- Where the check refuses, `run` with readings and store of their lengths gives the same number and place, and the store is as it was.
abbrev pub RefusedRuns : Limits → Type 0
RefusedRuns l =
    (rows : List ℕ) (e : Refusal) → check_of l rows ≡ err e
    → (readings : List ℤ) (store : List ℕ) → length readings ≡ 8 → length store ≡ store_numbers l
    → run_of l rows readings store ≡ (refused e.0 e.1, store)
