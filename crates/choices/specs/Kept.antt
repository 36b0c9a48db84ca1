-- What is kept of the variables while the other block of a choice is judged (LANGUAGE 3.31): from where each is moved away, and the roots that it
-- records, of each of the first `count` numbers. No rule of the language is stated here.
use Rattle.std.specs.Prelude.{ℕ, ◌<◌, ◌≡◌, List, get_or}
use Rattle.choices.specs.declared.choice.KeptState.{KeptState}
use Rattle.variables.specs.declared.table.Row.{Row}
use Rattle.statics.specs.Environment.{borrow_end, Variable, Slot, free, used, live, Environment, update}
use Rattle.statics.specs.Choice.{joined_slot}
use Rattle.statics.specs.Roots.{lengths, places_of, left}
use Rattle.variables.specs.Masks.{has}
use Rattle.variables.specs.Table.{entry_word, roots_at, end_in, environment_of, TableFor, SameLinks}

abbrev pub kept_at : List KeptState → ℕ → KeptState
kept_at kept x = get_or kept x (record { moved_from = 0; roots = record { low = 0; high = 0 } })

-- What the table has of x.
abbrev pub kept_now : List Row → ℕ → KeptState
kept_now env x = record { moved_from = entry_word env x 4; roots = roots_at env x }

-- What is kept says what changes of the variables in scope; links and levels do not.
pub record Kept (kept : List KeptState) (count : ℕ) (Γ : Environment) (x : ℕ) (v : Variable) : Type 0 where
  pub low : x < count
  pub moved_from : v.moved_from ≡ (kept_at kept x).moved_from
  pub borrow : v.borrow ≡ borrow_end v.chain (places_of 128 (has (kept_at kept x).roots) (lengths Γ) (left v.chain))

abbrev pub KeepsAll : List KeptState → ℕ → Environment → Type 0
KeepsAll kept count Γ = (x : ℕ) (v : Variable) → Γ x ≡ live v → Kept kept count Γ x v

-- In scope after a block is who was in scope before it, with the same links and level; numbers taken stay taken.
pub record Stays (Γ Γ' : Environment) : Type 0 where
  pub lives : (x : ℕ) (v : Variable) → Γ x ≡ live v → (w : Variable) × (Γ' x ≡ live w) × (w.chain ≡ v.chain) × (w.level ≡ v.level)
  pub lived : (x : ℕ) (w : Variable) → Γ' x ≡ live w → (v : Variable) × (Γ x ≡ live v)
  pub taken : (x : ℕ) → Γ x ≡ used → Γ' x ≡ used

-- A number with what is kept of it: a variable in scope has its links and its level, and the rest is kept.
abbrev pub restored : List Row → KeptState → Slot → Slot
restored env k free = free
restored env k used = used
restored env k (live v) = live (record { chain = v.chain; moved_from = k.moved_from; borrow = end_in env v.chain k.roots; level = v.level })

-- A number with what is kept of it and what the table has, joined.
abbrev pub joined_with : List Row → KeptState → Slot → Slot
joined_with env k s = joined_slot s (restored env k s) s

-- What is kept of y is its state in the table, if it is in scope.
abbrev pub KeptAs : KeptState → List Row → ℕ → Type 0
KeptAs k env y = (v : Variable) → environment_of env y ≡ live v → (k.moved_from ≡ v.moved_from) × (end_in env v.chain k.roots ≡ v.borrow)

-- Only the state of x has become what f says.
pub record Given (n : ℕ) (env : List Row) (x : ℕ) (f : Slot → Slot) (env' : List Row) : Type 0 where
  pub state : environment_of env' ≡ update (environment_of env) x (f (environment_of env x))
  pub table : TableFor env' n
  pub links : SameLinks env env'

-- After what is kept of x and what the table has of it were exchanged.
pub record Exchanged (n : ℕ) (env : List Row) (k : KeptState) (x : ℕ) (env' : List Row) (k' : KeptState) : Type 0 where
  pub given : Given n env x (restored env k) env'
  pub here : KeptAs k' env x
