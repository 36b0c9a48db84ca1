-- What the code answers that locates places, reads rows, drops values and closes variables: each the run rule it is for, on the store that
-- the lent numbers stand for. No rule of the language is stated here. `set` is the set of limits (LANGUAGE 2.8).
use Rattle.std.specs.Prelude.{ℕ, zero, suc, ◌+◌, ◌-◌, ◌<◌, ◌≡◌, List, [], ◌∷◌, get_or, Result, Ok, Err, IfOk}
use Rattle.syntax.specs.Result.{ok}
use Rattle.syntax.specs.Refusals.{number_of}
use Rattle.syntax.specs.declared.refusals.Reason.{Reason}
use Rattle.syntax.specs.Limits.{Limits, store_rows}
use Rattle.syntax.specs.Script.{Place}
use Rattle.dynamics.specs.Values.{variable}
use Rattle.dynamics.specs.Store.{State, Ran, fault}
use Rattle.dynamics.specs.Locate.{followed, locate_from, filled}
use Rattle.dynamics.specs.Drop.{InOrder, drop_value, close_all}
use Rattle.dynamics.specs.Encode.{location_of}
use Rattle.store.specs.declared.store.Value.{Value}
use Rattle.store.specs.Words.{as_value, store_of, Sound, Tidy}

-- The state in the lent numbers.
abbrev pub state_at : Limits → List ℕ → ℕ → List ℕ → State
state_at set w taken opened = record { store = store_of set w; taken = taken; opened = opened }

abbrev pub place_of : ℕ → ℕ → Place
place_of root follows = record { root = root; follows = follows }

-- What an answer of the code says at term i in the state s: what `f` makes of its value, or the fault.
abbrev pub told_at : {A B : Type 0} → State → ℕ → (A → B) → Result A Reason → Ran B
told_at s i f (Ok a) = ok (f a)
told_at s i f (Err r) = fault (number_of r) i s

-- ---- locating and reading

pub record Followed (set : Limits) (w : List ℕ) (row : ℕ) (r : Result ℕ Reason) : Type 0 where
  pub inside : IfOk r (λ n. n < store_rows set)
  pub is : (s : State) (i : ℕ) → told_at s i (location_of set.variables) r ≡ followed s i (store_of set w (location_of set.variables row))

pub record Located (set : Limits) (w : List ℕ) (root follows : ℕ) (r : Result ℕ Reason) : Type 0 where
  pub inside : IfOk r (λ n. n < store_rows set)
  pub is : (i taken : ℕ) (opened : List ℕ) → told_at (state_at set w taken opened) i (location_of set.variables) r ≡ locate_from (state_at set w taken opened) i (variable root) follows

pub record Filled (set : Limits) (w : List ℕ) (row : ℕ) (r : Result Value Reason) : Type 0 where
  pub sound : IfOk r (Sound set)
  pub is : (s : State) (i : ℕ) → told_at s i (as_value set) r ≡ filled s i (store_of set w (location_of set.variables row))

-- ---- dropping and closing

-- The state that dropping or closing leaves, or its fault.
abbrev pub left : Limits → List ℕ → ℕ → List ℕ → ℕ → Result (Unit {0}) Reason → Ran State
left set w taken opened i r = told_at (state_at set w taken opened) i (λ u. state_at set w taken opened) r

pub record Dropped (set : Limits) (w : List ℕ) (v : Value) (w' : List ℕ) (r : Result (Unit {0}) Reason) : Type 0 where
  pub tidy : Tidy set w'
  pub is : (i taken : ℕ) (opened : List ℕ) → InOrder (state_at set w taken opened) → left set w' taken opened i r ≡ drop_value i (state_at set w taken opened) (as_value set v)

-- The variable x closed.
abbrev pub close_one : ℕ → State → ℕ → Ran State
close_one i s x = close_all i s (x ∷ [])

pub record ClosedOne (set : Limits) (w : List ℕ) (x : ℕ) (w' : List ℕ) (r : Result (Unit {0}) Reason) : Type 0 where
  pub tidy : Tidy set w'
  pub is : (i taken : ℕ) (opened : List ℕ) → InOrder (state_at set w taken opened) → left set w' taken opened i r ≡ close_one i (state_at set w taken opened) x

-- The variables that were opened from `begin` on, n of them, last opened first.
unfoldable pub since : List ℕ → ℕ → ℕ → List ℕ
since opened begin zero = []
since opened begin (suc n) = get_or opened (begin + n) 0 ∷ since opened begin n

-- The first n that were opened are variables.
abbrev pub Listed : Limits → List ℕ → ℕ → Type 0
Listed set opened n = (k : ℕ) → k < n → get_or opened k 0 < set.variables

pub record ClosedAll (set : Limits) (w opened : List ℕ) (begin end : ℕ) (w' : List ℕ) (r : Result (Unit {0}) Reason) : Type 0 where
  pub tidy : Tidy set w'
  pub is : (i taken : ℕ) (around : List ℕ) → InOrder (state_at set w taken around) → left set w' taken around i r ≡ close_all i (state_at set w taken around) (since opened begin (end - begin))
