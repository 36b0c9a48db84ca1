-- The table of the variables, a row to each, and what it says in the rules' terms. Most fields of a row are a variable's entry, which always says
-- something. Three are notes, which must be right. No rule of the language is stated here.
use Rattle.std.specs.Prelude.{ℕ, suc, ◌+◌, ◌<◌, ◌≤◌, ◌≡◌, true, false, ◌&&◌, List, [], ◌∷◌, leb, ltb, eqb, length, get_or}
use Rattle.syntax.specs.Result.{pick}
use Rattle.syntax.specs.Script as script
use Rattle.variables.specs.declared.table.Place.{Place}
use Rattle.variables.specs.declared.roots.Roots.{Roots}
use Rattle.variables.specs.declared.table.Row.{Row}
use Rattle.variables.specs.declared.table.Status.{Status}
use Rattle.variables.specs.declared.table.Status.TheVariants as status
use Rattle.variables.specs.declared.table.BorrowEnd.{BorrowEnd}
use Rattle.variables.specs.declared.table.BorrowEnd.TheVariants as end
use Rattle.variables.specs.declared.table.VariableState.{VariableState}
use Rattle.variables.specs.declared.table.Entry.{Entry}
use Rattle.variables.specs.declared.table.Entry.TheVariants as entry
use Rattle.statics.specs.Links.{Link, boxed, shared, exclusive}
use Rattle.statics.specs.Environment.{Borrow, no_borrow, shared_of, exclusive_of, places, borrow_end, Variable, Slot, free, used, live, Environment, borrow_of, widened, write}
use Rattle.statics.specs.Places.{rooted}
use Rattle.statics.specs.Roots.{lengths, places_of, left}
use Rattle.variables.specs.Chains.{chain_of, is_exclusive}
use Rattle.variables.specs.Masks.{has}

abbrev pub no_roots : Roots
no_roots = record { low = 0; high = 0 }

-- A row of which nothing is known: the table has it where no row is.
abbrev pub blank : Row
blank = record { status = status.Free; links = 0; roots = no_roots; holders = no_roots; moved_from = 0; level = 0; note = 0 }

abbrev pub row_at : List Row → ℕ → Row
row_at env x = get_or env x blank

abbrev pub status_number : Status → ℕ
status_number status.Free = 0
status_number status.Used = 1
status_number status.Live = 2

-- The fields of a row in a list, so that a law can speak of all of them by number: a set is two words.
abbrev pub words_of : Row → List ℕ
words_of r = status_number r.status ∷ r.links ∷ r.roots.low ∷ r.holders.low ∷ r.moved_from ∷ r.level ∷ r.roots.high ∷ r.holders.high ∷ r.note ∷ []

abbrev pub entry_word : List Row → ℕ → ℕ → ℕ
entry_word env x k = get_or (words_of (row_at env x)) k 0

-- The links of x, a number of 32 bits.
abbrev pub links_at : List Row → ℕ → ℕ
links_at env x = (row_at env x).links

-- How many links x has, or had when it was in scope.
abbrev pub long_at : List Row → ℕ → ℕ
long_at env x = length (chain_of (links_at env x))

-- The roots of the places that x records.
abbrev pub roots_at : List Row → ℕ → Roots
roots_at env x = (row_at env x).roots

-- The note of a root: the variables that may hold a borrow of it.
abbrev pub holders_at : List Row → ℕ → Roots
holders_at env x = (row_at env x).holders

-- ---- the entries

-- The places with these roots, of something with these links (LANGUAGE 3.3): each has as many links after it as come after the borrow link.
abbrev pub places_in : List Row → List Link → Roots → List script.Place
places_in env ks s = places_of 128 (has s) (long_at env) (left ks)

-- The borrow end of something with these links.
abbrev pub end_in : List Row → List Link → Roots → Borrow
end_in env ks s = borrow_end ks (places_in env ks s)

abbrev pub variable_of : List Row → ℕ → ℕ → Roots → ℕ → Variable
variable_of env links d s level = record { chain = chain_of links; moved_from = d; borrow = end_in env (chain_of links) s; level = level }

abbrev pub variable_at : List Row → ℕ → Variable
variable_at env x = variable_of env (links_at env x) (entry_word env x 4) (roots_at env x) (entry_word env x 5)

unfoldable pub slot_as : ℕ → Variable → Slot
slot_as status v = pick (eqb status 0) free (pick (eqb status 1) used (live v))

-- What the table says of each number.
unfoldable pub environment_of : List Row → Environment
environment_of env = λ x. slot_as (entry_word env x 0) (variable_at env x)

-- ---- an entry as the code loads and stores it

-- The kind of the borrow end is that of the first borrow link (LANGUAGE 3.3).
unfoldable pub borrow_end_of : List Link → Roots → BorrowEnd
borrow_end_of [] s = end.None
borrow_end_of (boxed ∷ ks) s = borrow_end_of ks s
borrow_end_of (shared ∷ ks) s = end.Shared s
borrow_end_of (exclusive ∷ ks) s = end.Exclusive s

unfoldable pub state_at : List Row → ℕ → VariableState
state_at env x =
    record {
      links = links_at env x;
      moved_from = entry_word env x 4;
      borrow_end = borrow_end_of (chain_of (links_at env x)) (roots_at env x);
      level = entry_word env x 5;
    }

-- The roots of a borrow end.
unfoldable pub end_roots : BorrowEnd → Roots
end_roots end.None = record { low = 0; high = 0 }
end_roots (end.Shared s) = s
end_roots (end.Exclusive s) = s

-- The borrow end in the rules' terms, with the places of its roots.
unfoldable pub as_borrow : (Roots → List script.Place) → BorrowEnd → Borrow
as_borrow places end.None = no_borrow
as_borrow places (end.Shared s) = shared_of (places s)
as_borrow places (end.Exclusive s) = exclusive_of (places s)

-- The state in the rules' terms.
abbrev pub as_variable : List Row → VariableState → Variable
as_variable env v =
    record {
      chain = chain_of v.links;
      moved_from = v.moved_from;
      borrow = as_borrow (places_in env (chain_of v.links)) v.borrow_end;
      level = v.level;
    }

-- The borrow end is of the kind that the links say.
abbrev pub Fits : VariableState → Type 0
Fits v = v.borrow_end ≡ borrow_end_of (chain_of v.links) (end_roots v.borrow_end)

-- Moved away from another link on, and with other roots.
unfoldable pub changed_state : VariableState → ℕ → Roots → VariableState
changed_state v d s = record { links = v.links; moved_from = d; borrow_end = borrow_end_of (chain_of v.links) s; level = v.level }

unfoldable pub entry_at : List Row → ℕ → Entry
entry_at env x = pick (eqb (entry_word env x 0) 0) entry.Free (pick (eqb (entry_word env x 0) 1) entry.Used (entry.Live (state_at env x)))

-- ---- the notes

abbrev pub note_at : List Row → ℕ → ℕ
note_at env y = (row_at env y).note

-- The notes are right: who records a root is among those that may hold it. Two rows follow those of the n variables. The set of the first has
-- every variable whose borrow link is exclusive; that of the second is what is in scope, and its note is above any number taken.
pub record Noted (env : List Row) (n : ℕ) : Type 0 where
  pub held : (y r : ℕ) → y < n → r < n → 2 ≤ entry_word env y 0 → has (roots_at env y) r ≡ true → has (holders_at env r) y ≡ true
  pub exclusives : (y : ℕ) → 2 ≤ entry_word env y 0 → is_exclusive (chain_of (links_at env y)) ≡ true → has (roots_at env n) y ≡ true
  pub scope : (y : ℕ) → has (roots_at env (suc n)) y ≡ leb 2 (entry_word env y 0)
  pub most : note_at env (suc n) ≤ n
  pub untaken : (x : ℕ) → note_at env (suc n) ≤ x → entry_word env x 0 ≡ 0

-- No set has more than 128 variables (LANGUAGE 2.8).
abbrev pub TableFor : List Row → ℕ → Type 0
TableFor env n = (length env ≡ n + 2) × (n ≤ 128) × Noted env n

-- After noting that x may hold a borrow of each root: the entries and the other notes are as before, no holder is lost, and x is one.
pub record HolderNoted (n : ℕ) (env : List Row) (x : ℕ) (s : Roots) (env' : List Row) : Type 0 where
  pub entries : (y k : ℕ) → k < 9 → (k ≡ 3 → ⊥) → (k ≡ 7 → ⊥) → entry_word env' y k ≡ entry_word env y k
  pub notes : (y : ℕ) → n ≤ y → note_at env' y ≡ note_at env y
  pub kept : (r y : ℕ) → r < n → has (holders_at env r) y ≡ true → has (holders_at env' r) y ≡ true
  pub new : (r : ℕ) → r < n → has s r ≡ true → has (holders_at env' r) x ≡ true

-- After a state of x was stored: it is what the table has of x; the status of x, and all words of others but notes, are as before; no holder is
-- lost, and x is noted as one wherever it records a root.
pub record Stored (n : ℕ) (env : List Row) (x : ℕ) (v : VariableState) (env' : List Row) : Type 0 where
  pub state : state_at env' x ≡ v
  pub entries : (y k : ℕ) → k < 9 → (k ≡ 3 → ⊥) → (k ≡ 7 → ⊥) → (x ≡ y → k ≡ 0) → entry_word env' y k ≡ entry_word env y k
  pub notes : (y : ℕ) → n ≤ y → note_at env' y ≡ note_at env y
  pub kept : (r y : ℕ) → r < n → has (holders_at env r) y ≡ true → has (holders_at env' r) y ≡ true
  pub new : (r : ℕ) → r < n → has (roots_at env' x) r ≡ true → has (holders_at env' r) x ≡ true

-- After adding x to the set of a row: only the two words of that set have changed.
pub record MemberAdded (env : List Row) (row x : ℕ) (env' : List Row) : Type 0 where
  pub others : (y k : ℕ) → k < 9 → (y ≡ row → (k ≡ 2 → ⊥) × (k ≡ 6 → ⊥)) → entry_word env' y k ≡ entry_word env y k
  pub members : (y : ℕ) → has (roots_at env' row) y ≡ pick (has (roots_at env row) y) true (eqb x y)

-- After noting, where the borrow end is exclusive, that x has such a link.
pub record ExclusiveNoted (n : ℕ) (env : List Row) (x : ℕ) (e : BorrowEnd) (env' : List Row) : Type 0 where
  pub others : (y k : ℕ) → k < 9 → (y ≡ n → (k ≡ 2 → ⊥) × (k ≡ 6 → ⊥)) → entry_word env' y k ≡ entry_word env y k
  pub kept : (y : ℕ) → has (roots_at env n) y ≡ true → has (roots_at env' n) y ≡ true
  pub new : (s : Roots) → e ≡ end.Exclusive s → has (roots_at env' n) x ≡ true

-- Variables that are in scope.
abbrev pub InScope : List Row → Roots → Type 0
InScope env s = (y : ℕ) → has s y ≡ true → 2 ≤ entry_word env y 0

-- The variables in scope that live at the level or around it.
abbrev pub Around : List Row → Roots → ℕ → Type 0
Around env s level = (y : ℕ) → has s y ≡ pick (leb 2 (entry_word env y 0)) (leb (entry_word env y 5) level) false

-- No place that is recorded has the root x, in the table or in a borrow end.
abbrev pub Unrecorded : List Row → ℕ → Borrow → Type 0
Unrecorded env x b = ((y : ℕ) → rooted (places (borrow_of (environment_of env y))) x ≡ false) × (rooted (places b) x ≡ false)

-- The links of no variable have changed.
abbrev pub SameLinks : List Row → List Row → Type 0
SameLinks env env' = (y : ℕ) → links_at env' y ≡ links_at env y

-- A value with these roots may have been written to each variable of a set (LANGUAGE 3.25).
pub record WidenedAll (env : List Row) (to s : Roots) (env' : List Row) : Type 0 where
  pub in_set : (x : ℕ) → has to x ≡ true → environment_of env' x ≡ widened (environment_of env x) (end_in env (chain_of (links_at env x)) s)
  pub out_of_set : (x : ℕ) → has to x ≡ false → environment_of env' x ≡ environment_of env x
  pub links : SameLinks env env'

-- A value with the borrow end b, whose roots are these, has been written to one variable of the set (LANGUAGE 3.25).
pub record Written (env : List Row) (n : ℕ) (to s : Roots) (env' : List Row) : Type 0 where
  pub is : (b : Borrow) (m : ℕ) → ((x : ℕ) → has to x ≡ true → end_in env (chain_of (links_at env x)) s ≡ b) → environment_of env' ≡ write (environment_of env) (places_of n (has to) (lengths (environment_of env)) m) b
  pub links : SameLinks env env'

-- ---- words put

-- Word k of row x put, and a set put there whose second word stands 4 words on.
unfoldable pub put_at : (ℕ → ℕ → ℕ) → ℕ → ℕ → ℕ → ℕ → ℕ → ℕ
put_at words x k word y j = pick (eqb x y && eqb k j) word (words y j)

abbrev pub put_set : (ℕ → ℕ → ℕ) → ℕ → ℕ → Roots → ℕ → ℕ → ℕ
put_set words x k s = put_at (put_at words x k s.low) x (k + 4) s.high

-- The note of row x raised where it is less.
unfoldable pub raised : (ℕ → ℕ → ℕ) → ℕ → ℕ → ℕ → ℕ → ℕ
raised words x least = pick (ltb (words x 8) least) (put_at words x 8 least) words

-- The code's places in the rules' terms.
abbrev pub as_place : Place → script.Place
as_place p = record { root = p.root; follows = p.follows }
