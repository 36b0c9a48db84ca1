-- The store as the lent numbers (LANGUAGE 4.1): rows of state, value kind and payload. n is the number of variables.
use Rattle.std.specs.Prelude.{ℕ, zero, suc, ◌+◌, ◌-◌, List, [], ◌∷◌, ◌++◌, ltb}
use Rattle.syntax.specs.Result.{pick}
use Rattle.dynamics.specs.Values.{Location, variable, cell, Value, empty, num, owner, reference, Row, closed, given_back, open_with}
use Rattle.dynamics.specs.Store.{Store, value_in}

-- The states (LANGUAGE 4.2).
unfoldable pub state_number : Row → ℕ
state_number closed = 0
state_number (open_with v) = 1
state_number given_back = 2

-- The value kinds (LANGUAGE 4.3).
unfoldable pub kind_number : Value → ℕ
kind_number empty = 0
kind_number (num k) = 1
kind_number (owner c) = 2
kind_number (reference l) = 3

module _ (n : ℕ) where
  -- The rows of the variables, then those of the cells (LANGUAGE 4.1).
  unfoldable pub row_of : Location → ℕ
  row_of (variable x) = x
  row_of (cell c) = n + c

  -- The location of a row (LANGUAGE 4.1).
  unfoldable pub location_of : ℕ → Location
  location_of r = pick (ltb r n) (variable r) (cell (r - n))

  -- The payloads (LANGUAGE 4.3): 0 for empty, the bits, the cell, the row.
  unfoldable pub payload : Value → ℕ
  payload empty = 0
  payload (num k) = k
  payload (owner c) = c
  payload (reference l) = row_of l

  -- A store row (LANGUAGE 4.1): state, value kind, payload.
  unfoldable pub triple : Row → List ℕ
  triple r = state_number r ∷ kind_number (value_in r) ∷ payload (value_in r) ∷ []

  -- k rows from row r on.
  unfoldable pub encode_from : ℕ → ℕ → Store → List ℕ
  encode_from r zero S = []
  encode_from r (suc k) S = triple (S (location_of r)) ++ encode_from (suc r) k S

  -- All rows (LANGUAGE 4.1).
  unfoldable pub encode : ℕ → Store → List ℕ
  encode rows S = encode_from 0 rows S
