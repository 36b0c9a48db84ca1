-- The lent numbers as the store of the rules, for the contracts inside the machine. The set says how many variables and cells there are. No
-- rule of the language is stated here.
use Rattle.std.specs.Prelude.{ℕ, ◌+◌, ◌*◌, ◌<◌, ◌≡◌, true, List, ltb, eqb, length, get_or}
use Rattle.store.specs.declared.store.Value as held
use Rattle.store.specs.declared.store.Value.TheVariants as value
use Rattle.store.specs.declared.store.Row as stored
use Rattle.store.specs.declared.store.Row.TheVariants as entry
use Rattle.syntax.specs.Result.{pick}
use Rattle.syntax.specs.Limits.{Limits, in_ranges, store_rows, store_numbers}
use Rattle.dynamics.specs.Values.{Location, variable, cell, Value, empty, num, owner, reference, Row, closed, given_back, open_with}
use Rattle.dynamics.specs.Store.{Store, put, value_in}
use Rattle.dynamics.specs.Encode.{location_of, encode}

-- The value of a kind and a payload.
unfoldable pub value_of : Limits → ℕ → ℕ → Value
value_of set k p = pick (eqb k 1) (num p) (pick (eqb k 2) (owner p) (pick (eqb k 3) (reference (location_of set.variables p)) empty))

-- The row of a state, a kind and a payload.
unfoldable pub row_from : Limits → ℕ → ℕ → ℕ → Row
row_from set s k p = pick (eqb s 1) (open_with (value_of set k p)) (pick (eqb s 2) given_back closed)

abbrev pub row_at : Limits → List ℕ → ℕ → Row
row_at set w r = row_from set (get_or w (3 * r) 0) (get_or w (3 * r + 1) 0) (get_or w (3 * r + 2) 0)

-- Any numbers stand for some store.
unfoldable pub store_of : Limits → List ℕ → Store
store_of set w (variable x) = pick (ltb x set.variables) (row_at set w x) closed
store_of set w (cell c) = pick (ltb c set.boxes) (row_at set w (set.variables + c)) closed

-- A location that the store has.
abbrev pub Inside : Limits → Location → Type 0
Inside set (variable x) = x < set.variables
Inside set (cell c) = c < set.boxes

-- A value that leads nowhere outside the store.
abbrev pub Leads : Limits → Value → Type 0
Leads set empty = Unit {0}
Leads set (num n) = Unit {0}
Leads set (owner c) = c < set.boxes
Leads set (reference l) = Inside set l

-- ---- the code's values and rows

-- The value that one of the code's is.
abbrev pub as_value : Limits → held.Value → Value
as_value set value.Empty = empty
as_value set (value.Number n) = num n
as_value set (value.Owner c) = owner c
as_value set (value.Reference r) = reference (location_of set.variables r)

-- The row that one of the code's is.
abbrev pub as_row : Limits → stored.Row → Row
as_row set entry.Closed = closed
as_row set entry.GivenBack = given_back
as_row set (entry.Open v) = open_with (as_value set v)

-- The value in it.
abbrev pub value_held : stored.Row → held.Value
value_held entry.Closed = value.Empty
value_held entry.GivenBack = value.Empty
value_held (entry.Open v) = v

-- The kind and the payload of a value, and the three numbers of a row.
abbrev pub value_words : held.Value → ℕ × ℕ
value_words value.Empty = (0, 0)
value_words (value.Number n) = (1, n)
value_words (value.Owner c) = (2, c)
value_words (value.Reference r) = (3, r)

abbrev pub row_words : stored.Row → ℕ × ℕ × ℕ
row_words entry.Closed = (0, 0, 0)
row_words entry.GivenBack = (2, 0, 0)
row_words (entry.Open v) = let k = value_words v in (1, k.0, k.1)

-- A value that leads nowhere outside the store; and a row with such a value.
abbrev pub Sound : Limits → held.Value → Type 0
Sound set value.Empty = Unit {0}
Sound set (value.Number n) = Unit {0}
Sound set (value.Owner c) = c < set.boxes
Sound set (value.Reference r) = r < store_rows set

abbrev pub SoundRow : Limits → stored.Row → Type 0
SoundRow set e = Sound set (value_held e)

-- The set is in its ranges, the numbers are those of a store, and no value in it leads outside.
pub record Tidy (set : Limits) (w : List ℕ) : Type 0 where
  pub ranges : in_ranges set ≡ true
  pub long : length w ≡ store_numbers set
  pub words : encode set.variables (store_rows set) (store_of set w) ≡ w
  pub leads : (l : Location) → Leads set (value_in (store_of set w l))

pub record Loaded (set : Limits) (w : List ℕ) (row : ℕ) (e : stored.Row) : Type 0 where
  pub is : store_of set w (location_of set.variables row) ≡ as_row set e
  pub sound : SoundRow set e

pub record Written (set : Limits) (w : List ℕ) (row : ℕ) (e : stored.Row) (w' : List ℕ) : Type 0 where
  pub tidy : Tidy set w'
  pub is : store_of set w' ≡ put (store_of set w) (location_of set.variables row) (as_row set e)
