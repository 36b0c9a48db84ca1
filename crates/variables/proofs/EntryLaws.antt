-- An entry that the code has loaded, in the rules' terms: in scope, or not.
use Prim.Native.Nat.{ℕ, zero, suc, ◌<◌, ◌≤◌}
use native.Mathlib.Omega.{arith}
use native.Mathlib.Decide.{dec_lt}
use mathlib.Core.Path.{◌≡◌, refl, sym, ap, ◌∙◌}
use mathlib.Core.List.{List}
use lib.Dec.{eqb}
use denote.Enum.Declared.{tag_of}
use borrow.Author.Tests.{ne_eqb}
use Rattle.syntax.specs.Result.{err, Refusal, pick}
use Rattle.variables.specs.declared.table.Row.{Row}
use Rattle.variables.specs.declared.table.VariableState.{VariableState}
use Rattle.variables.specs.declared.table.Entry.{Entry}
use Rattle.variables.specs.declared.table.Entry.TheVariants as entry
use Rattle.variables.specs.contracts.table.Entry.{the_type}
use Rattle.statics.specs.Environment.{Variable, live}
use Rattle.statics.specs.Rules.{in_scope}
use Rattle.statics.proofs.Slots.{free≢live, used≢live}
use Rattle.variables.specs.Table.{entry_word, entry_at, state_at, variable_at, slot_as, environment_of, Noted, TableFor}

-- What an `else` knows: the entry is in no state.
abbrev pub NotLive : Entry → Type 0
NotLive e = (v : VariableState) → e ≡ entry.Live v → ⊥

abbrev loaded_as : ℕ → VariableState → Entry
loaded_as s v = pick (eqb s 0) entry.Free (pick (eqb s 1) entry.Used (entry.Live v))

-- By the status, what the code loads and what the rules say.
by_status : (v : Variable) (w : VariableState) (s : ℕ) → 2 ≤ s → (slot_as s v ≡ live v) × (loaded_as s w ≡ entry.Live w)
unfolding slot_as
by_status v w zero l = absurd (omega arith)
by_status v w (suc zero) l = absurd (omega arith)
by_status v w (suc (suc n)) l = (rw (ne_eqb (suc (suc n)) 0 (omega arith), ne_eqb (suc (suc n)) 1 (omega arith)), rw (ne_eqb (suc (suc n)) 0 (omega arith), ne_eqb (suc (suc n)) 1 (omega arith)))

-- In scope is what has such a status, and its state is what the words say.
pub status_live : (env : List Row) (x : ℕ) → 2 ≤ entry_word env x 0 → environment_of env x ≡ live (variable_at env x)
unfolding environment_of
status_live env x h = (by_status (variable_at env x) (state_at env x) (entry_word env x 0) h).0

-- Not in scope is what has a lower one.
pub status_dead : (env : List Row) (x : ℕ) (r : Refusal) → entry_word env x 0 < 2 → in_scope (environment_of env x) r ≡ err r
unfolding environment_of slot_as in_scope
status_dead env x r h = go (entry_word env x 0) h
  where
    go : (s : ℕ) → s < 2 → in_scope (slot_as s (variable_at env x)) r ≡ err r
    go zero l = refl
    go (suc zero) l = refl
    go (suc (suc n)) l = absurd (omega arith)

pub live_status : (env : List Row) (x : ℕ) (v : Variable) → environment_of env x ≡ live v → (2 ≤ entry_word env x 0) × (v ≡ variable_at env x)
unfolding environment_of slot_as
live_status env x v h = go (entry_word env x 0) h
  where
    go : (s : ℕ) → slot_as s (variable_at env x) ≡ live v → (2 ≤ s) × (v ≡ variable_at env x)
    go zero e = absurd (free≢live e)
    go (suc zero) e = absurd (used≢live e)
    go (suc (suc n)) e = let z = sym (by_status (variable_at env x) (state_at env x) (suc (suc n)) (omega arith)).0 ∙ e in (omega arith, cc)

-- A variable in scope is one that the table has.
pub status_inside : (env : List Row) (n : ℕ) → Noted env n → (x : ℕ) → 2 ≤ entry_word env x 0 → x < n
status_inside env n N x h = go (dec_lt x n)
  where
    go : Dec (x < n) → x < n
    go (yes l) = l
    go (no l) =
        let m = N.most in
        let z = N.untaken x (omega arith) in
        absurd (omega arith)

pub live_inside : (env : List Row) (n : ℕ) → TableFor env n → (x : ℕ) (v : Variable) → environment_of env x ≡ live v → x < n
live_inside env n T x v h = status_inside env n T.2 x (live_status env x v h).0

-- A number that the table does not have is free.
pub outside_dead : (env : List Row) (n : ℕ) → TableFor env n → (x : ℕ) (r : Refusal) → n ≤ x → in_scope (environment_of env x) r ≡ err r
outside_dead env n T x r l = let m = T.2.most in let z = T.2.untaken x (omega arith) in status_dead env x r (omega arith)

module _ (env : List Row) (x : ℕ) (e : Entry) (loaded : e ≡ entry_at env x) where
  pub slot_live : (v : VariableState) → e ≡ entry.Live v → (environment_of env x ≡ live (variable_at env x)) × (v ≡ state_at env x)
  unfolding entry_at environment_of slot_as
  slot_live v q = go (entry_word env x 0) (sym q ∙ loaded)
    where
      go : (s : ℕ) → entry.Live v ≡ loaded_as s (state_at env x) → (slot_as s (variable_at env x) ≡ live (variable_at env x)) × (v ≡ state_at env x)
      go zero h = absurd (let z : 2 ≡ 0 = ap (tag_of the_type) h in omega arith)
      go (suc zero) h = absurd (let z : 2 ≡ 1 = ap (tag_of the_type) h in omega arith)
      go (suc (suc n)) h =
          let b = by_status (variable_at env x) (state_at env x) (suc (suc n)) (omega arith) in
          let z : entry.Live v ≡ entry.Live (state_at env x) = h ∙ b.1 in
          (b.0, cc)

  pub not_live : NotLive e → (v : Variable) → environment_of env x ≡ live v → ⊥
  unfolding entry_at
  not_live h v k =
      h (state_at env x) (loaded ∙ (by_status (variable_at env x) (state_at env x) (entry_word env x 0) (live_status env x v k).0).1)
