-- What judging a place, the beginning of a let and an answer gives, in the rules' terms (LANGUAGE 3.16 to 3.24, 3.29).
use Rattle.std.specs.Prelude.{ℕ, ◌<◌, ◌≤◌, ◌≡◌, true, List, [], ◌∷◌, length, drop}
use Rattle.std.proofs.Math.Option.{Option}
use Rattle.std.specs.Prelude as prelude
use Rattle.std.specs.Prelude.{Ok, Err}
use Rattle.syntax.specs.declared.refusals.Reason.{Reason}
use Rattle.syntax.specs.declared.refusals.Refusal.{Refusal}
use Rattle.syntax.specs.Refusals.{number_of, told}
use Rattle.syntax.specs.Result.{ok, err, need, ◌>>=◌}
use Rattle.syntax.specs.Script as script
use Rattle.variables.specs.declared.table.Row.{Row}
use Rattle.variables.specs.declared.roots.Roots.{Roots}
use Rattle.rules.specs.declared.rules.Located.{Located}
use Rattle.rules.specs.declared.rules.Located.TheVariants as located
use Rattle.statics.specs.Links.{leading_boxes}
use Rattle.statics.specs.Environment.{Variable, used, live, Environment, Ty, update, is_free, borrows_at}
use Rattle.statics.specs.Uses.{Unfinished}
use Rattle.statics.specs.Rules as rules
use Rattle.statics.specs.Rules.{Judged}
use Rattle.statics.specs.Judge.{is_answer}
use Rattle.statics.specs.Follow.{value_whole}
use Rattle.statics.specs.Neat.{place, SameSet}
use Rattle.statics.specs.Roots.{lengths, places_of}
use Rattle.variables.specs.Chains.{chain_of}
use Rattle.variables.specs.Masks.{has}
use Rattle.variables.specs.Table.{environment_of, links_at, long_at, variable_at, places_in}

-- ---- places

-- What judging a place gave: the refusal; or the links of the root, those after the follows, and the roots of the own links it may lead to.
-- `judged` is the rule's answer.
pub record PlaceFound (nv : ℕ) (Γ : Environment) (p : script.Place) (links rest : ℕ) (s : Roots) (judged : Judged rules.Located) : Type 0 where
  pub located : rules.Located
  pub is : judged ≡ ok located
  pub root : Γ p.root ≡ live (located).root
  pub chain : (located).root.chain ≡ chain_of links
  pub after : drop p.follows (located).root.chain ≡ chain_of rest
  pub low : (y : ℕ) → has s y ≡ true → y < nv
  pub to : SameSet (located).to (places_of nv (has s) (lengths Γ) (length (chain_of rest)))

-- A place that passes 31 and 32 (LANGUAGE 3.16), and the links after it.
pub record Named (Γ : Environment) (p : script.Place) (rest : ℕ) : Type 0 where
  pub variable : Variable
  pub is : Γ p.root ≡ live variable
  pub long : p.follows ≤ length variable.chain
  pub after : drop p.follows variable.chain ≡ chain_of rest

-- A place that leads to an own link of its root: only boxes are passed, so that following it gives the place itself (LANGUAGE 3.13).
pub record OwnFound (nv : ℕ) (Γ : Environment) (i : ℕ) (p : script.Place) (rest : ℕ) : Type 0 where
  pub named : Named Γ p rest
  pub own : p.follows ≤ leading_boxes named.variable.chain
  pub is : rules.judge_place nv Γ i p ≡ ok (record { root = named.variable; to = p ∷ [] })

abbrev pub LocatedIs : (nv : ℕ) → Environment → ℕ → script.Place → prelude.Result Located Reason → Type 0
LocatedIs nv Γ i p (Ok (located.Own rest)) = OwnFound nv Γ i p rest
LocatedIs nv Γ i p (Ok (located.At b)) = PlaceFound nv Γ p b.links b.rest b.to (rules.judge_place nv Γ i p)
LocatedIs nv Γ i p (Err r) = rules.judge_place nv Γ i p ≡ err (number_of r, i)

-- What 31 and 32 say of a place: a refusal is the rule's, of the place and of its move, which asks 38 before 33 (LANGUAGE 3.20); otherwise 33 is
-- still to be judged.
abbrev pub NamedIs : (nv : ℕ) → Environment → ℕ → script.Place → prelude.Result ℕ Reason → Type 0
NamedIs nv Γ i p (Ok rest) = Named Γ p rest
NamedIs nv Γ i p (Err r) = (rules.judge_place nv Γ i p ≡ err (number_of r, i)) × ((ns : Unfinished) → rules.judge_move nv ns Γ i p ≡ err (number_of r, i))

-- A place that may be read (LANGUAGE 3.19), and the links after it; where it leads is not told.
pub record Read (nv : ℕ) (ns : Unfinished) (Γ : Environment) (i : ℕ) (p : script.Place) (rest : ℕ) : Type 0 where
  pub named : Named Γ p rest
  pub to : List script.Place
  pub is : rules.judge_readable nv ns Γ i p ≡ ok (record { root = named.variable; to = to })

abbrev pub ReadableIs : (nv : ℕ) → Unfinished → Environment → ℕ → script.Place → prelude.Result ℕ Reason → Type 0
ReadableIs nv ns Γ i p (Ok rest) = Read nv ns Γ i p rest
ReadableIs nv ns Γ i p (Err r) = rules.judge_readable nv ns Γ i p ≡ err (number_of r, i)

-- What such an answer says whatever `barred` was: the place is named, and its value whole.
abbrev pub WholeIs : (nv : ℕ) → Environment → script.Place → prelude.Result ℕ Reason → Type 0
WholeIs nv Γ p (Ok rest) = (named : Named Γ p rest) × (value_whole nv Γ p.root named.variable ≡ true)
WholeIs nv Γ p (Err r) = Unit {0}

-- After so many follows from x, whose value is whole, comes a borrow link, or boxes and then one.
pub record WholeBorrow (env : List Row) (nv x follows : ℕ) : Type 0 where
  pub is : environment_of env x ≡ live (variable_at env x)
  pub whole : value_whole nv (environment_of env) x (variable_at env x) ≡ true
  pub long : follows ≤ long_at env x
  pub borrow : leading_boxes (drop follows (chain_of (links_at env x))) < length (drop follows (chain_of (links_at env x)))

-- The place with so many follows from x is judged at the term i without a refusal, and what is borrowed where it may lead has these roots.
pub record LentAt (nv : ℕ) (env : List Row) (i x follows : ℕ) (s : Roots) : Type 0 where
  pub to : List script.Place
  pub is : rules.judge_place nv (environment_of env) i (place x follows) ≡ ok (record { root = variable_at env x; to = to })
  pub borrowed : borrows_at (environment_of env) to ≡ places_in env (drop follows (chain_of (links_at env x))) s

-- A place that is to be a number (LANGUAGE 3.27, 3.31): `judged` is the rule's answer at the term i.
abbrev pub NumberIs : Judged (Unit {0}) → ℕ → prelude.Result (Unit {0}) Reason → Type 0
NumberIs judged i (Ok u) = judged ≡ ok tt
NumberIs judged i (Err r) = judged ≡ err (number_of r, i)

abbrev pub as_requirement : prelude.Result (Unit {0}) Refusal → Judged (Unit {0})
as_requirement r = told (λ _. tt) r

-- ---- lets

-- The beginning of a let (LANGUAGE 3.24): the number is free (30), and taken in the environment in which the inner term is judged.
abbrev pub begin_let : Environment → ℕ → ℕ → Judged Environment
begin_let Γ i x = need (is_free (Γ x)) (30, i) >>= λ _. ok (update Γ x used)

-- The answer of the beginning of a let (LANGUAGE 3.24), with the environment afterwards.
abbrev pub begun : Environment → prelude.Result (Unit {0}) Refusal → Judged Environment
begun Γ r = told (λ _. Γ) r

-- The answer is a number (43 at 0; LANGUAGE 3.29).
abbrev pub judge_answer : ℕ → Option Ty → Judged (Unit {0})
judge_answer nv o = need (is_answer nv o) (43, 0)
