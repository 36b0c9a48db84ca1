-- Larger sets of limits (LANGUAGE 2.8, 7.7): a script that is accepted under one set is accepted under every set that is nowhere smaller, with
-- the same number of terms and, for the same readings, the same answer and cells. Said of what `read`, `check`, `run` and `call` answer. Where
-- the form is right and the check refuses, it refuses alike.
use Rattle.std.specs.Prelude.{ℕ, ◌-◌, ◌≡◌, true, List, ◌++◌, ℤ, length}
use Rattle.syntax.specs.Result.{ok}
use Rattle.syntax.specs.Limits.{Limits, in_ranges, row_numbers, store_numbers}
use Rattle.syntax.specs.Larger.{NoSmaller}
use Rattle.syntax.specs.Layout.{zeros}
use Rattle.syntax.specs.Within.{Under}
use Rattle.syntax.specs.Answers.{read_of, judged_of}
use Rattle.ownership.specs.Answers.{check_of}
use Rattle.room.specs.Running.{answered, run_of}
use Rattle.room.specs.Calling.{called, call_of}

-- Both runs come to their end, with the same answer and the same number of cells taken.
pub record SameRun (l m : Limits) (rows again : List ℕ) (readings : List ℤ) (store store' : List ℕ) : Type 0 where
  pub answer : ℤ
  pub cells : ℕ
  pub smaller : (run_of l rows readings store).0 ≡ answered answer cells
  pub larger : (run_of m again readings store').0 ≡ answered answer cells

-- The rows of n terms that are accepted under l, laid out again for m: with zeros behind them they are accepted as n terms under m, and run the
-- same for all readings, whatever the two stores hold.
pub record SameAgain (l m : Limits) (rows : List ℕ) (n : ℕ) (again : List ℕ) : Type 0 where
  pub laid : again ≡ rows ++ zeros (row_numbers m - row_numbers l)
  pub accepted : check_of m again ≡ ok n
  pub runs : (readings : List ℤ) (store store' : List ℕ) → length readings ≡ 8 → length store ≡ store_numbers l → length store' ≡ store_numbers m
      → SameRun l m rows again readings store store'

-- From bytes, whatever versions are known: what is read and accepted under l is read, as of the same version, and accepted under m, into any rows
-- of m's length. Reading and the check count the same number of terms.
abbrev pub LargerScripts : Limits → Limits → Type 0
LargerScripts l m =
    (known : ℕ) (script before : List ℕ) (v n : ℕ) (rows others : List ℕ) (k : ℕ) → Under 256 script → length others ≡ row_numbers m
    → read_of l known script before ≡ (ok (v, n), rows) → check_of l rows ≡ ok k
    → (k ≡ n) × (again : List ℕ) × (read_of m known script others ≡ (ok (v, n), again)) × SameAgain l m rows n again

-- From rows, whether or not they were read, laid out again for m.
abbrev pub LargerRows : Limits → Limits → Type 0
LargerRows l m =
    (rows : List ℕ) (n : ℕ) → Under 4294967296 rows → check_of l rows ≡ ok n
    → SameAgain l m rows n (rows ++ zeros (row_numbers m - row_numbers l))

-- The check's answer on rows of a script, laid out again for m, accepted or not: the number and the term of a refusal do not change.
abbrev pub SameChecks : Limits → Limits → Type 0
SameChecks l m =
    (rows : List ℕ) (n : ℕ) → Under 4294967296 rows → judged_of l rows ≡ ok n
    → check_of m (rows ++ zeros (row_numbers m - row_numbers l)) ≡ check_of l rows

-- In one call: it answers the same, with any rows and any store of m's lengths.
abbrev pub LargerCalls : Limits → Limits → Type 0
LargerCalls l m =
    (script : List ℕ) (readings : List ℤ) (rows store rows' store' : List ℕ) (n : ℕ) (a : ℤ) (c : ℕ)
    → Under 256 script → length rows' ≡ row_numbers m → length store' ≡ store_numbers m
    → (call_of l script readings rows store).0 ≡ called n a c
    → (call_of m script readings rows' store').0 ≡ called n a c

pub record Larger (l m : Limits) : Type 0 where
  pub scripts : LargerScripts l m
  pub rows : LargerRows l m
  pub verdicts : SameChecks l m
  pub calls : LargerCalls l m

-- For any two sets of which the second is nowhere smaller, and in its ranges. Of the first this follows from its answers.
abbrev pub LargerSets : Type 0
LargerSets = (l m : Limits) → NoSmaller l m → in_ranges m ≡ true → Larger l m
