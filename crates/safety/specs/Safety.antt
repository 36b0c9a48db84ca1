-- The safety of accepted scripts (LANGUAGE 7.4): one claim about a whole run.
use Rattle.std.specs.Prelude.{ℕ, zero, suc, ◌-◌, ◌≤◌, ◌<◌, ◌≡◌, List, [], ◌∷◌, ◌++◌}
use Rattle.syntax.specs.Result.{ok}
use Rattle.syntax.specs.Limits.{Limits, store_rows}
use Rattle.syntax.specs.Script.{Term}
use Rattle.syntax.specs.Within.{Within}
use Rattle.statics.specs.Judge.{judge_script}
use Rattle.dynamics.specs.Values.{variable, cell, closed, given_back}
use Rattle.dynamics.specs.Store.{Store, State, Fault}
use Rattle.dynamics.specs.Encode.{encode}
use Rattle.dynamics.specs.Drop.{cells_given_back}
use Rattle.dynamics.specs.Run.{begun, run_script}
use Rattle.dynamics.specs.Boxes.{boxes_run}
use Rattle.dynamics.specs.Faults.{RunMeets}

-- Rows 0, 0, 0 and rows 2, 0, 0.
unfoldable pub closed_rows : ℕ → List ℕ
closed_rows zero = []
closed_rows (suc n) = 0 ∷ 0 ∷ 0 ∷ closed_rows n

unfoldable pub given_rows : ℕ → List ℕ
given_rows zero = []
given_rows (suc n) = 2 ∷ 0 ∷ 0 ∷ given_rows n

-- All the lent numbers of a tidy store (LANGUAGE 7.4), with so many cells taken: every variable's row and every cell not taken is 0, 0, 0, every
-- cell taken 2, 0, 0.
abbrev pub tidy_store : Limits → ℕ → List ℕ
tidy_store l cells = closed_rows l.variables ++ (given_rows cells ++ closed_rows (l.boxes - cells))

-- What is said of the run of an accepted script t with the readings, in a store that was `earlier` before.
pub record Safe (l : Limits) (t : Term) (readings : ℕ → ℕ) (earlier : Store) : Type 0 where
  pub final : State
  pub answer : ℕ
  -- The run comes to its end, and the answer is the number that the run rules give.
  pub ends : run_script readings t earlier ≡ ok (final, answer)
  -- No fault is met at any term, drop or closing on the way, nor at the answer.
  pub faultless : (f : Fault) → RunMeets readings t earlier f → ⊥
  -- At the end every variable's row and every cell not taken is 0, 0, 0, and every cell taken is 2, 0, 0;
  pub variables : (x : ℕ) → final.store (variable x) ≡ closed
  pub untaken : (c : ℕ) → final.taken ≤ c → final.store (cell c) ≡ closed
  pub given : (c : ℕ) → c < final.taken → final.store (cell c) ≡ given_back
  -- so of all the lent numbers.
  pub numbers : encode l.variables (store_rows l) final.store ≡ tidy_store l final.taken
  -- The cells taken, which the run reports, the boxes that finished, and the cells given back are equally many.
  pub boxes : final.taken ≡ boxes_run readings t (begun earlier)
  pub back : final.taken ≡ cells_given_back l.boxes final.store

-- For every script that the check accepts (LANGUAGE 3.30), all readings, and any earlier store.
abbrev pub Demand3 : Limits → Type 0
Demand3 l = (t : Term) → Within l t → judge_script l.variables t ≡ ok tt → (readings : ℕ → ℕ) (earlier : Store) → Safe l t readings earlier
