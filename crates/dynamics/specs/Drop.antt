-- Dropping a value (LANGUAGE 4.8), and closing a block's variables (4.18). i is the term that acts (4.5).
use Rattle.std.specs.Prelude.{ℕ, zero, suc, ◌-◌, ◌≤◌, ◌≡◌, Bool, true, false, List, [], ◌∷◌}
use Rattle.syntax.specs.Result.{ok, ◌>>=◌, pick}
use Rattle.dynamics.specs.Values.{variable, cell, Value, empty, num, owner, reference, Row, closed, given_back, open_with}
use Rattle.dynamics.specs.Store.{Store, put, value_in, State, with_store, Ran, fault}

-- What dropping a value does to the state (LANGUAGE 4.8).
abbrev pub Dropping : Type 0
Dropping = State → Value → Ran State

-- An owner is dropped (LANGUAGE 4.8): its cell must be open (63) and becomes 2, 0, 0, then what it held is dropped.
unfoldable pub give_back : ℕ → State → ℕ → Row → Dropping → Ran State
give_back i s c closed onwards = fault 63 i s
give_back i s c given_back onwards = fault 63 i s
give_back i s c (open_with v) onwards = onwards (with_store s (put s.store (cell c) given_back)) v

-- Dropping (LANGUAGE 4.8): anything but an owner stays as it is.
unfoldable pub drop_step : ℕ → Dropping → Dropping
drop_step i onwards s empty = ok s
drop_step i onwards s (num n) = ok s
drop_step i onwards s (owner c) = give_back i s c (s.store (cell c)) onwards
drop_step i onwards s (reference l) = ok s

-- Given back (LANGUAGE 4.2).
unfoldable pub is_given_back : Row → Bool
is_given_back closed = false
is_given_back given_back = true
is_given_back (open_with v) = false

-- The cells below n in state 2 (LANGUAGE 4.2).
unfoldable pub cells_given_back : ℕ → Store → ℕ
cells_given_back zero S = 0
cells_given_back (suc n) S = pick (is_given_back (S (cell n))) (suc (cells_given_back n S)) (cells_given_back n S)

-- The cells taken that are not given back: one fewer with every owner dropped (LANGUAGE 4.8).
unfoldable pub cells_left : State → ℕ
cells_left s = s.taken - cells_given_back s.taken s.store

-- Cells are taken in order from 0 (LANGUAGE 4.13): none from `taken` on has been opened.
abbrev pub InOrder : State → Type 0
InOrder s = (c : ℕ) → s.taken ≤ c → s.store (cell c) ≡ closed

-- n owners, one behind the other, and one step more (LANGUAGE 4.8). With no cell left none is open, so that the last step goes no further.
unfoldable pub drop_along : ℕ → ℕ → Dropping
drop_along zero i = drop_step i (λ s v. ok s)
drop_along (suc n) i = drop_step i (drop_along n i)

-- Dropping (LANGUAGE 4.8). Where cells are taken in order, as they are in every state of a run, this is `drop_step i (drop_value i)`: the count
-- decides nothing (7.5; proofs: DropLaws, RunOrder).
unfoldable pub drop_value : ℕ → Dropping
drop_value i s v = drop_along (cells_left s) i s v

-- Closing (LANGUAGE 4.18), the last opened first: the row is set to 0, 0, 0, then its value dropped.
unfoldable pub close_all : ℕ → State → List ℕ → Ran State
close_all i s [] = ok s
close_all i s (x ∷ xs) =
    drop_value i (with_store s (put s.store (variable x) closed)) (value_in (s.store (variable x))) >>= λ s'.
    close_all i s' xs
