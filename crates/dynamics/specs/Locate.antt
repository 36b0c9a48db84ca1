-- Locating a place (LANGUAGE 4.6) and reading rows (4.7). i is the term that acts (4.5).
use Rattle.std.specs.Prelude.{ℕ, zero, suc}
use Rattle.syntax.specs.Result.{ok, ◌>>=◌, need}
use Rattle.syntax.specs.Script.{Place}
use Rattle.dynamics.specs.Values.{Location, variable, cell, Value, empty, num, owner, reference, Row, closed, given_back, open_with}
use Rattle.dynamics.specs.Store.{is_open, State, Ran, fault}

-- A follow (LANGUAGE 4.6): from an owner or a reference; 60 where the row is not open or is empty, 61 at a number.
unfoldable pub followed : State → ℕ → Row → Ran Location
followed s i closed = fault 60 i s
followed s i given_back = fault 60 i s
followed s i (open_with empty) = fault 60 i s
followed s i (open_with (num n)) = fault 61 i s
followed s i (open_with (owner c)) = ok (cell c)
followed s i (open_with (reference l)) = ok l

-- Where r follows from the location lead (LANGUAGE 4.6). The row there must be open (60).
unfoldable pub locate_from : State → ℕ → Location → ℕ → Ran Location
locate_from s i l zero = need (is_open (s.store l)) (record { number = 60; term = i; state = s }) >>= λ _. ok l
locate_from s i l (suc r) = followed s i (s.store l) >>= λ m. locate_from s i m r

-- Locating (LANGUAGE 4.6): from the variable's own row, then by each follow.
unfoldable pub locate : State → ℕ → Place → Ran Location
locate s i p = locate_from s i (variable p.root) p.follows

-- Reading a row (LANGUAGE 4.7): it must be filled (60).
unfoldable pub filled : State → ℕ → Row → Ran Value
filled s i closed = fault 60 i s
filled s i given_back = fault 60 i s
filled s i (open_with empty) = fault 60 i s
filled s i (open_with (num n)) = ok (num n)
filled s i (open_with (owner c)) = ok (owner c)
filled s i (open_with (reference l)) = ok (reference l)

-- A value that must be a number (61): in a below, a sum and a choice (LANGUAGE 4.16, 4.23), and as the answer (4.20).
unfoldable pub number_in : State → ℕ → Value → Ran ℕ
number_in s i empty = fault 61 i s
number_in s i (num n) = ok n
number_in s i (owner c) = fault 61 i s
number_in s i (reference l) = fault 61 i s
