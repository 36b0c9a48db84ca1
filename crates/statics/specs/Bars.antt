-- Who holds a borrow (LANGUAGE 3.10), who is in use (3.34), and what that bars (3.11, 3.12).
use Rattle.std.specs.Prelude.{ℕ, zero, suc, ◌≡◌, Bool, true, false}
use Rattle.syntax.specs.Result.{pick}
use Rattle.statics.specs.Places.{rooted}
use Rattle.statics.specs.Uses.{Unfinished, named_later}
use Rattle.statics.specs.Environment.{Borrow, no_borrow, shared_of, exclusive_of, places, Slot, free, used, live, Environment, holding}

-- A borrow of a place with the root, of either kind; its follows do not count (LANGUAGE 3.12).
unfoldable pub borrows_any : Borrow → ℕ → Bool
borrows_any b x = rooted (places b) x

-- The same, exclusive borrows only (LANGUAGE 3.11).
unfoldable pub borrows_exclusive : Borrow → ℕ → Bool
borrows_exclusive no_borrow x = false
borrows_exclusive (shared_of ps) x = false
borrows_exclusive (exclusive_of ps) x = rooted ps x

-- Variables in scope hold, nothing else does (LANGUAGE 3.10).
unfoldable pub held_by : (Borrow → ℕ → Bool) → Slot → ℕ → Bool
held_by h free x = false
held_by h used x = false
held_by h (live v) x = pick (holding v) (h v.borrow x) false

-- Some variable below n that is among these holds such a borrow (LANGUAGE 3.11, 3.12).
unfoldable pub held : (Borrow → ℕ → Bool) → (ℕ → Bool) → ℕ → Environment → ℕ → Bool
held h these zero Γ x = false
held h these (suc n) Γ x =
    elim (held_by h (Γ n) x) [ true ↦ elim (these n) [ true ↦ true | false ↦ held h these n Γ x ] | false ↦ held h these n Γ x ]

-- Those to begin with, the roots of places that they hold, and so on, at most k in a row.
unfoldable pub reachable : (ℕ → Bool) → ℕ → ℕ → Environment → ℕ → Bool
reachable these nv zero Γ x = false
reachable these nv (suc k) Γ x = elim (these x) [ true ↦ true | false ↦ held borrows_any (λ y. reachable these nv k Γ y) nv Γ x ]

-- In use (LANGUAGE 3.34): a term that has not finished names it, or a variable in use holds a borrow of a place rooted in it. As many in a row
-- as there are variables are enough: proofs/InUse says that these are those of `InUse`, which has no bound.
unfoldable pub in_use : ℕ → Unfinished → Environment → ℕ → Bool
in_use nv ns Γ x = reachable (λ y. named_later ns y) nv nv Γ x

-- The same without a bound: the least set with both. Two that only hold each other are not in it.
pub data InUse (ns : Unfinished) (Γ : Environment) : ℕ → Type 0 where
  named : {x : ℕ} → named_later ns x ≡ true → InUse ns Γ x
  by_holder : {y x : ℕ} → held_by borrows_any (Γ y) x ≡ true → InUse ns Γ y → InUse ns Γ x

-- Reading barred (LANGUAGE 3.11): some variable in use holds an exclusive borrow of the root.
abbrev pub read_barred : ℕ → Unfinished → Environment → ℕ → Bool
read_barred nv ns Γ x = held borrows_exclusive (in_use nv ns Γ) nv Γ x

-- Writing barred (LANGUAGE 3.12): some variable in use holds a borrow of the root, of either kind.
abbrev pub write_barred : ℕ → Unfinished → Environment → ℕ → Bool
write_barred nv ns Γ x = held borrows_any (in_use nv ns Γ) nv Γ x
