-- The store (LANGUAGE 4.1), the state of a run, and faults (4.5).
use Rattle.std.specs.Prelude.{ℕ, Bool, true, false, List, eqb}
use Rattle.syntax.specs.Result.{Result, err, pick}
use Rattle.dynamics.specs.Values.{Location, variable, cell, Value, empty, Row, closed, given_back, open_with}

-- Each variable and each cell has a row (LANGUAGE 4.1).
abbrev pub Store : Type 0
Store = Location → Row

-- A run begins with all rows 0 (LANGUAGE 4.4).
abbrev pub cleared : Store → Store
cleared S = λ l. closed

unfoldable pub same_location : Location → Location → Bool
same_location (variable x) (variable y) = eqb x y
same_location (variable x) (cell d) = false
same_location (cell c) (variable y) = false
same_location (cell c) (cell d) = eqb c d

-- The store with one row changed.
unfoldable pub put : Store → Location → Row → Store
put S l r = λ k. pick (same_location l k) r (S k)

-- Open (LANGUAGE 4.2).
unfoldable pub is_open : Row → Bool
is_open closed = false
is_open given_back = false
is_open (open_with v) = true

-- An open row's value (LANGUAGE 4.2).
abbrev pub value_in : Row → Value
value_in closed = empty
value_in given_back = empty
value_in (open_with v) = v

-- The store, the number of cells taken (LANGUAGE 4.13), and the variables that the innermost block has opened, last opened first (4.18).
pub record State : Type 0 where
  pub store : Store
  pub taken : ℕ
  pub opened : List ℕ

abbrev pub with_store : State → Store → State
with_store s S = record { store = S; taken = s.taken; opened = s.opened }

-- A fault, 60 to 63, and the term that was acting (LANGUAGE 4.5), in the state of the run as it then is (4.21).
pub record Fault : Type 0 where
  pub number : ℕ
  pub term : ℕ
  pub state : State

-- What a rule gives, or the fault that it met (LANGUAGE 4.5).
abbrev pub Ran : Type 0 → Type 0
Ran A = Result Fault A

abbrev pub fault : {A : Type 0} → ℕ → ℕ → State → Ran A
fault n i s = err (record { number = n; term = i; state = s })
