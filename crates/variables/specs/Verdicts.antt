-- What the rules' functions answer, in the rules' terms: the refusal or the values of each case (LANGUAGE 3.17).
use Rattle.std.specs.Prelude as prelude
use Rattle.std.specs.Prelude.{ℕ, ◌+◌, ◌-◌, ◌%◌, ◌≡◌, Bool, false, not, List, length, leb, eqb}
use Rattle.std.proofs.Math.Option.{Option, none, some}
use Rattle.syntax.specs.declared.refusals.Reason.{Reason}
use Rattle.syntax.specs.Refusals.{number_of}
use Rattle.syntax.specs.Result.{ok, err, need, ◌>>=◌}
use Rattle.variables.specs.declared.roots.Roots.{Roots}
use Rattle.variables.specs.declared.table.Row.{Row}
use Rattle.variables.specs.declared.verdicts.ValueType.{ValueType}
use Rattle.statics.specs.Links.{Link, max_links}
use Rattle.statics.specs.Environment.{Borrow, places, Ty}
use Rattle.statics.specs.Rules as rules
use Rattle.statics.specs.Rules.{Judged, Out, judge_box}
use Rattle.statics.specs.Choice.{agreeing, either}
use Rattle.statics.specs.Neat.{Neat}
use Rattle.statics.specs.Roots.{places_of}
use Rattle.variables.specs.Chains.{chain_of}
use Rattle.variables.specs.Masks.{has}
use Rattle.variables.specs.Table.{TableFor, environment_of, long_at, end_in}

abbrev pub type_of : List Link → Borrow → Ty
type_of ks b = record { links = ks; borrow = b }

-- The value, by the table in which its roots are.
abbrev pub as_value : List Row → prelude.Option ValueType → Option Ty
as_value env prelude.None = none
as_value env (prelude.Some t) = some (type_of (chain_of t.links) (end_in env (chain_of t.links) t.roots))

-- What judging a term answers.
abbrev pub Verdict : Type 0
Verdict = prelude.Result (prelude.Option ValueType) Reason

-- The verdict of the term i, with the table afterwards: its own refusals are at i.
abbrev pub answered : List Row → ℕ → Verdict → Judged Out
answered env i (prelude.Ok v) = ok (environment_of env, as_value env v)
answered env i (prelude.Err r) = err (number_of r, i)

-- The roots of the places that the value borrows, if there are any (LANGUAGE 3.3).
abbrev pub RootsIn : prelude.Option ValueType → Roots → Type 0
RootsIn v r = (env : List Row) (nv : ℕ) → (m : ℕ) × (places (rules.borrow_in nv (as_value env v)) ≡ places_of 128 (has r) (long_at env) m)

-- The table of a neat state, at some level.
abbrev pub NeatTable : List Row → ℕ → Type 0
NeatTable env n = TableFor env n × ((level : ℕ) × Neat n (environment_of env) level)

-- ---- values

-- The verdict of a term that leaves every table as it is.
abbrev pub Answers : Verdict → (List Row → ℕ → Judged Out) → Type 0
Answers r judged = (env : List Row) (i : ℕ) → answered env i r ≡ judged env i

abbrev pub value_of : (List Row → Ty) → List Row → ℕ → Judged Out
value_of t env i = ok (environment_of env, some (t env))

-- A value of at most 8 links (42; LANGUAGE 3.21 to 3.23).
abbrev pub at_most8 : (List Row → Ty) → List Row → ℕ → Judged Out
at_most8 t env i = need (leb (length (t env).links) max_links) (42, i) >>= λ _. value_of t env i

-- The verdict of a box (LANGUAGE 3.23).
abbrev pub Boxes : prelude.Option ValueType → Verdict → Type 0
Boxes inner r = (nv : ℕ) → Answers r (λ env i. judge_box nv (environment_of env) i (as_value env inner))

-- The end of an assign (LANGUAGE 3.25): writing is not barred (35).
abbrev pub Writes : Bool → Verdict → Type 0
Writes barred r = Answers r (λ env i. need (not barred) (35, i) >>= λ _. ok (environment_of env, none))

-- The value of a choice (LANGUAGE 3.31): the values of its blocks agree (39), and it has the places of both.
abbrev pub Joins : prelude.Option ValueType → prelude.Option ValueType → Verdict → Type 0
Joins first second r = Answers r (λ env i. need (agreeing (as_value env first) (as_value env second)) (39, i) >>= λ _. ok (environment_of env, either (as_value env first) (as_value env second)))
