-- The judge at a row: the rules' judge at the tree that stands there, and the row after it. No rule of the language is stated here.
use Rattle.std.specs.Prelude.{ℕ, zero, suc, ◌+◌, ◌-◌, ◌<◌, ◌≡◌, List, [], ◌∷◌, ◌++◌, eqb}
use Rattle.std.proofs.Math.Option.{Option, none, some}
use Rattle.std.specs.Prelude as prelude
use Rattle.syntax.specs.declared.refusals.Refusal.{Refusal}
use Rattle.syntax.specs.Refusals.{told}
use Rattle.syntax.specs.Result.{ok, err, pick, ◌>>=◌}
use Rattle.syntax.specs.Script.{Place, Term, Terms}
use Rattle.syntax.specs.Kinds.{Kind, k_number, k_reading, k_copy, k_move, k_shared, k_exclusive, k_box, k_let, k_assign, k_below, k_block, k_choice, k_sum}
use Rattle.syntax.specs.RowParts.{field_at}
use Rattle.syntax.specs.RowTrees.{place_at, RowTree, several_at, block_at, then_block, tree_at}
use Rattle.variables.specs.declared.table.Row.{Row}
use Rattle.statics.specs.Environment.{used, Environment, Ty}
use Rattle.statics.specs.Choice.{carried}
use Rattle.statics.specs.Uses.{Unfinished, naming, finishing, finishing_all}
use Rattle.statics.specs.Rules.{Judged, Out, number_ty, judge_copy, judge_move, judge_shared, judge_exclusive, judge_box, judge_let, judge_assign, judge_below, judge_choice}
use Rattle.statics.specs.Judge.{judge, judges, judge_script}
use Rattle.statics.specs.Neat.{Neat, NeatValue}
use Rattle.statics.specs.Met.{judge_branch}
use Rattle.variables.specs.Table.{environment_of, TableFor}
use Rattle.variables.specs.Verdicts.{as_value}
use Rattle.rules.specs.RuleAnswers.{begin_let}
use Rattle.term_judge.specs.declared.terms.Judged as code
use Rattle.uses.specs.RowUses.{row_names, UsesFor}

abbrev pub Ended : Type 0
Ended = Judged (Out × ℕ)

abbrev pub at_row : ℕ → Judged Out → Ended
at_row j r = r >>= λ o. ok (o, j)

-- What the code gives, with the table afterwards: the state and the value, and the row after the term.
abbrev pub told_as : List Row → code.Judged → Out × ℕ
told_as env o = ((environment_of env, as_value env o.value), o.next)

-- The code's answer.
abbrev pub ended : List Row → prelude.Result code.Judged Refusal → Ended
ended env r = told (told_as env) r

-- Where no tree stands the answer does not matter: the code asks that one does.
unfoldable pub judged_at : {A : Type 0} → (A → ℕ → Judged Out) → RowTree A → Ended
judged_at judged none = err (0, 0)
judged_at judged (some r) = at_row r.1 (judged r.0 r.1)

-- `later` gives the terms that have not finished once the tree has, which ends before that row.
abbrev pub judge_at : ℕ → RowTree Term → ℕ → (ℕ → Unfinished) → Environment → Ended
judge_at nv d level later Γ = judged_at (λ t next. judge nv t level (finishing t ++ later next) Γ) d

abbrev pub judges_at : ℕ → RowTree Terms → ℕ → (ℕ → Unfinished) → Environment → Ended
judges_at nv d level later Γ = judged_at (λ ts next. judges nv ts level (finishing_all ts ++ later next) Γ) d

-- What comes before its inner term.
unfoldable pub begin_at : List ℕ → ℕ → Environment → Judged Environment
begin_at rows i Γ = pick (eqb (field_at rows i 0) 8) (begin_let Γ i (field_at rows i 1)) (ok Γ)

-- The rule that follows it; ns is the terms that have not finished then, itself first.
unfoldable pub rule_after : ℕ → ℕ → List ℕ → ℕ → Unfinished → Out → Judged Out
rule_after nv level rows i ns o =
    pick (eqb (field_at rows i 0) 7) (judge_box nv o.0 i o.1)
    (pick (eqb (field_at rows i 0) 8) (judge_let nv level o.0 i (field_at rows i 1) o.1)
    (judge_assign nv ns o.0 i (place_at rows i 1) o.1))

abbrev pub after_at : ℕ → ℕ → List ℕ → ℕ → (ℕ → Unfinished) → Ended → Ended
after_at nv level rows i later inner = inner >>= λ o. at_row o.1 (rule_after nv level rows i (row_names rows i ∷ later o.1) o.0)

-- What is asked of the table after the inner term: its state and the value are neat, and the number of a let is taken.
pub record AfterReady (nv level : ℕ) (rows : List ℕ) (i : ℕ) (env : List Row) (inner : prelude.Result code.Judged Refusal) : Type 0 where
  pub neat : (o : code.Judged) → inner ≡ prelude.Ok o → Neat nv (environment_of env) level
  pub value : (o : code.Judged) → inner ≡ prelude.Ok o → NeatValue (environment_of env) level (as_value env o.value)
  pub taken : (o : code.Judged) → inner ≡ prelude.Ok o → field_at rows i 0 ≡ 8 → environment_of env (field_at rows i 1) ≡ used

-- What is asked of the tables where a term, a block or a choice is judged at this level, with so many levels left below it.
pub record Ready (nv level levels : ℕ) (rows : List ℕ) (env : List Row) (uses : List ℕ) : Type 0 where
  pub table : TableFor env nv
  pub neat : Neat nv (environment_of env) level
  pub deep : level + levels < 4294967296
  pub last_uses : UsesFor nv rows uses

-- What is left of a block: n terms from row i on, after one with this value.
unfoldable pub rest_at : ℕ → (ℕ → RowTree Term) → ℕ → (ℕ → Unfinished) → ℕ → ℕ → Option Ty → Environment → Ended
rest_at nv term level later zero i o Γ = ok ((Γ, o), i)
rest_at nv term level later (suc n) i o Γ = judges_at nv (several_at term n i) level later Γ

-- The two blocks of a choice, once its place is judged (LANGUAGE 3.31), and what is known after either.
-- ns is the terms that have not finished once both have, the choice first.
unfoldable pub judge_branches : ℕ → ℕ → Environment → ℕ → (ℕ × Terms) × (ℕ × Terms) → Unfinished → Judged Out
judge_branches nv level Γ i b ns =
    judge_branch nv b.0.1 b.0.0 level ((finishing_all b.0.1 ++ naming []) ++ ((finishing_all b.1.1 ++ naming []) ++ ns)) Γ >>= λ one.
    judge_branch nv b.1.1 b.1.0 level ((finishing_all b.1.1 ++ naming []) ++ ns) (carried Γ one.0) >>= λ other.
    judge_choice nv Γ i one other

-- Those of the choice at row i, which has so many levels left. `later` has the choice in it.
abbrev pub branches_at : ℕ → ℕ → List ℕ → ℕ → ℕ → (ℕ → Unfinished) → Environment → Ended
branches_at nv levels rows i level later Γ =
    judged_at (λ b next. judge_branches nv level Γ i b (later next)) (then_block (block_at (tree_at nv (levels - 1) rows) rows (i + 1)) (block_at (tree_at nv (levels - 1) rows) rows))

-- A term with no inner term, by its kind.
unfoldable pub judge_leaf : ℕ → Option Kind → ℕ → Place → Place → Unfinished → Environment → Judged Out
judge_leaf nv none i p q ns Γ = ok (Γ, some number_ty)
judge_leaf nv (some k_number) i p q ns Γ = ok (Γ, some number_ty)
judge_leaf nv (some k_reading) i p q ns Γ = ok (Γ, some number_ty)
judge_leaf nv (some k_copy) i p q ns Γ = judge_copy nv ns Γ i p
judge_leaf nv (some k_move) i p q ns Γ = judge_move nv ns Γ i p
judge_leaf nv (some k_shared) i p q ns Γ = judge_shared nv ns Γ i p
judge_leaf nv (some k_exclusive) i p q ns Γ = judge_exclusive nv ns Γ i p
judge_leaf nv (some k_box) i p q ns Γ = ok (Γ, some number_ty)
judge_leaf nv (some k_let) i p q ns Γ = ok (Γ, some number_ty)
judge_leaf nv (some k_assign) i p q ns Γ = ok (Γ, some number_ty)
judge_leaf nv (some k_below) i p q ns Γ = judge_below nv ns Γ i p q
judge_leaf nv (some k_block) i p q ns Γ = ok (Γ, some number_ty)
judge_leaf nv (some k_choice) i p q ns Γ = ok (Γ, some number_ty)
judge_leaf nv (some k_sum) i p q ns Γ = judge_below nv ns Γ i p q

unfoldable pub script_at : ℕ → RowTree Term → Judged (Unit {0})
script_at nv none = err (0, 0)
script_at nv (some r) = judge_script nv r.0

-- A tree stands there, and the row after it is n.
abbrev pub EndsAt : {A : Type 0} → RowTree A → ℕ → Type 0
EndsAt none n = ⊥
EndsAt (some r) n = r.1 ≡ n
