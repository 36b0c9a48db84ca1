-- What the code of the terms without an inner term answers. No rule of the language is stated here.
use Rattle.std.specs.Prelude.{ℕ, ◌+◌, ◌*◌, ◌≤◌, ◌≡◌, List, eqb, ℤ, length, Result, IfOk}
use Rattle.std.proofs.Math.Option.{none, some}
use Rattle.syntax.specs.Kinds.{newest, kind_of}
use Rattle.syntax.specs.Result.{pick}
use Rattle.syntax.specs.declared.refusals.Reason.{Reason}
use Rattle.syntax.specs.Limits.{Limits}
use Rattle.syntax.specs.Script.{Term}
use Rattle.syntax.specs.RowParts.{field_at}
use Rattle.syntax.specs.RowTrees.{RowTree, IsTree, kind_at}
use Rattle.dynamics.specs.Store.{State, Ran, fault}
use Rattle.dynamics.specs.Signed.{compared, held_sum}
use Rattle.dynamics.specs.Run.{Outcome, run_copy, run_move, run_borrow, run_number, run_pair, run}
use Rattle.dynamics.specs.Readings.{bits_of}
use Rattle.store.specs.declared.store.Value.{Value}
use Rattle.store.specs.Words.{as_value, Sound, Tidy}
use Rattle.store.specs.StoreParts.{state_at, place_of, told_at}

-- ---- the terms without an inner term

-- What an answer of the code says: the state afterwards and the term's value. i is the term that acts, here and below.
abbrev pub gave : Limits → List ℕ → ℕ → List ℕ → ℕ → Result Value Reason → Ran Outcome
gave set w taken opened i r = told_at (state_at set w taken opened) i (λ v. (state_at set w taken opened, as_value set v)) r

pub record Copied (set : Limits) (w : List ℕ) (root follows : ℕ) (r : Result Value Reason) : Type 0 where
  pub sound : IfOk r (Sound set)
  pub is : (i taken : ℕ) (opened : List ℕ) → gave set w taken opened i r ≡ run_copy (state_at set w taken opened) i (place_of root follows)

pub record Moved (set : Limits) (w : List ℕ) (root follows : ℕ) (w' : List ℕ) (r : Result Value Reason) : Type 0 where
  pub tidy : Tidy set w'
  pub sound : IfOk r (Sound set)
  pub is : (i taken : ℕ) (opened : List ℕ) → gave set w' taken opened i r ≡ run_move (state_at set w taken opened) i (place_of root follows)

pub record Borrowed (set : Limits) (w : List ℕ) (root follows : ℕ) (r : Result Value Reason) : Type 0 where
  pub sound : IfOk r (Sound set)
  pub is : (i taken : ℕ) (opened : List ℕ) → gave set w taken opened i r ≡ run_borrow (state_at set w taken opened) i (place_of root follows)

pub record Numbered (set : Limits) (w : List ℕ) (root follows : ℕ) (r : Result ℕ Reason) : Type 0 where
  pub is : (i taken : ℕ) (opened : List ℕ) → told_at (state_at set w taken opened) i (λ n. n) r ≡ run_number (state_at set w taken opened) i (place_of root follows)

pub record Paired (set : Limits) (f : ℕ → ℕ → ℕ) (w : List ℕ) (root follows other others : ℕ) (r : Result Value Reason) : Type 0 where
  pub sound : IfOk r (Sound set)
  pub is : (i taken : ℕ) (opened : List ℕ) → gave set w taken opened i r ≡ run_pair f (state_at set w taken opened) i (place_of root follows) (place_of other others)

-- What the kinds with two places make of the numbers at them.
unfoldable pub pair_of : ℕ → ℕ → ℕ → ℕ
pair_of kind = pick (eqb kind 13) held_sum compared

-- The run of what stands in rows, by the run rule for it; and of a term.
unfoldable pub ran_on : {A : Type 0} → (A → State → Ran Outcome) → RowTree A → State → Ran Outcome
ran_on rule none s = fault 0 0 s
ran_on rule (some r) s = rule r.0 s

abbrev pub run_on : List ℤ → RowTree Term → State → Ran Outcome
run_on readings d s = ran_on (run (bits_of readings)) d s

-- The term at row i, if it has no inner term.
unfoldable pub leaf_at : Limits → List ℕ → ℕ → RowTree Term
leaf_at set rows i = kind_at (kind_of newest (field_at rows i 0)) set.variables (λ j. none) rows i

pub record LeafReady (set : Limits) (rows : List ℕ) (i : ℕ) (readings : List ℤ) (w : List ℕ) : Type 0 where
  pub room : 5 * i + 5 ≤ length rows
  pub leaf : IsTree (leaf_at set rows i)
  pub eight : length readings ≡ 8
  pub tidy : Tidy set w

pub record LeafRan (set : Limits) (rows : List ℕ) (i : ℕ) (readings : List ℤ) (w w' : List ℕ) (r : Result Value Reason) : Type 0 where
  pub tidy : Tidy set w'
  pub sound : IfOk r (Sound set)
  pub is : (taken : ℕ) (opened : List ℕ) → gave set w' taken opened i r ≡ run_on readings (leaf_at set rows i) (state_at set w taken opened)
