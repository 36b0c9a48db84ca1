-- Where a place leads (LANGUAGE 3.13), as the code searches: from variable to variable, each met once. No rule of the language is stated here.
use Rattle.std.specs.Prelude.{ℕ, ◌-◌, ◌≤◌, ◌<◌, ◌≡◌, Bool, true, false, List}
use Rattle.std.specs.Prelude.{Result, Ok, Err}
use Rattle.syntax.specs.declared.refusals.Reason.{Reason}
use Rattle.syntax.specs.declared.refusals.Reason.TheVariants as reason
use Rattle.syntax.specs.Script.{Place}
use Rattle.variables.specs.declared.table.Row.{Row}
use Rattle.variables.specs.declared.roots.Roots.{Roots}
use Rattle.paths.specs.declared.follow.Ends.{Ends}
use Rattle.paths.specs.declared.follow.Ends.TheVariants as ends
use Rattle.paths.specs.declared.follow.Step.{Step}
use Rattle.paths.specs.declared.follow.Step.TheVariants as step
use Rattle.statics.specs.Links.{leading_boxes}
use Rattle.statics.specs.Places.{every}
use Rattle.statics.specs.Environment.{Variable, Slot, live, Environment}
use Rattle.statics.specs.Follow.{own_link, own_path, whole_slot}
use Rattle.statics.specs.Roots.{lengths, places_of, MetFrom, ends_of}
use Rattle.variables.specs.Masks.{has}
use Rattle.variables.specs.Table.{roots_at}

-- What is asked of each variable met: nothing of it is moved away (LANGUAGE 3.15), or nothing on its own path (3.14).
unfoldable pub passes_slot : Bool → Slot → ℕ → Bool
passes_slot true s r = whole_slot s
passes_slot false s r = own_path s r

abbrev pub passes : Bool → Environment → Place → Bool
passes deep Γ q = passes_slot deep (Γ q.root) q.follows

-- What a step says of a variable in scope, with so many follows from it: it does not pass (33), following ends there, or goes on.
pub record Passed (deep : Bool) (v : Variable) (follows : ℕ) (r : Result Step Reason) : Type 0 where
  pub moved : (e : Reason) → r ≡ Err e → (e ≡ reason.MovedAway) × (passes_slot deep (live v) follows ≡ false)
  pub here : r ≡ Ok step.Here → (passes_slot deep (live v) follows ≡ true) × (follows ≤ leading_boxes v.chain)
  pub through : r ≡ Ok step.Through → (passes_slot deep (live v) follows ≡ true) × (leading_boxes v.chain < follows)

-- The variables met from x on with m links left are those of `met`. The search says that one of them does not pass, or that all pass, and
-- then in which of them it ends, or that it ends in x itself.
pub record Searched (nv : ℕ) (Γ : Environment) (x m : ℕ) (deep : Bool) (r : Result Ends Reason) : Type 0 where
  pub met : ℕ → Bool
  pub is : MetFrom Γ m x met
  pub moved : (e : Reason) → r ≡ Err e → (e ≡ reason.MovedAway) × (every (passes deep Γ) (places_of nv met (lengths Γ) m) ≡ false)
  pub own : r ≡ Ok ends.Own → (every (passes deep Γ) (places_of nv met (lengths Γ) m) ≡ true) × (own_link (Γ x) (lengths Γ x - m) ≡ true)
  pub passed : (s : Roots) → r ≡ Ok (ends.At s) → every (passes deep Γ) (places_of nv met (lengths Γ) m) ≡ true
  pub to : (s : Roots) → r ≡ Ok (ends.At s) → (y : ℕ) → has s y ≡ ends_of Γ m met y

-- The roots that the variables of a set record, all of them.
pub record BorrowedAt (env : List Row) (s r : Roots) : Type 0 where
  pub within : (y x : ℕ) → has s y ≡ true → has (roots_at env y) x ≡ true → has r x ≡ true
  pub from : (x : ℕ) → has r x ≡ true → (y : ℕ) × (has s y ≡ true) × (has (roots_at env y) x ≡ true)
