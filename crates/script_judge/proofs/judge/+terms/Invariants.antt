use Prim.Native.Nat.{ℕ, ◌+◌, ◌-◌, ◌*◌, ◌≤◌}
use mathlib.Core.Path.{◌≡◌}
use mathlib.Core.Option.{none}
use mathlib.Core.List.{List}
use lib.ListN.{length}
use Rattle.syntax.specs.RowTrees.{IsRest, tree_at}
use Rattle.statics.specs.Environment.{Environment}
use Rattle.variables.specs.Masks.{has}
use Rattle.variables.specs.Table.{TableFor, environment_of}
use Rattle.variables.specs.Verdicts.{as_value}
use Rattle.uses.specs.RowUses.{later_at}
use Rattle.term_judge.specs.JudgeRows.{ended, Ready, rest_at}
use Rattle.script_judge.proofs.InwardsLaws.{Inwards, Outwards}
use Rattle.script_judge.proofs.judge.+terms.Given as goal

-- How deep the functions that judge terms, blocks and choices may still go, and what their loops keep. In a block's loop over its terms, what is
-- left gives the answer of all. Inwards, each term begins in the state that the one around it left; outwards, what has been judged is the answer
-- of the term so far in.

-- What is left from row i on, which falls from a block or a choice to the terms in it: levels, and numbers of rows.
abbrev remaining : List ℕ → ℕ → ℕ → ℕ
remaining rows i levels = levels + (length rows - 5 * i)

-- Where both stay, the rank of the function falls.
abbrev pub decreases-judge_block : goal.decreases-judge_block
decreases-judge_block l = remaining l.script.now.rows.now l.around.now.end l.levels * 7

abbrev pub decreases-judge_branches : goal.decreases-judge_branches
decreases-judge_branches l = remaining l.script.now.rows.now l.i l.levels * 7 + 1

abbrev pub decreases-judge_few_kept : goal.decreases-judge_few_kept
decreases-judge_few_kept l = remaining l.script.now.rows.now l.i l.levels * 7 + 2

abbrev pub decreases-judge_many_kept : goal.decreases-judge_many_kept
decreases-judge_many_kept l = remaining l.script.now.rows.now l.i l.levels * 7 + 2

abbrev pub decreases-judge_choice : goal.decreases-judge_choice
decreases-judge_choice l = remaining l.script.now.rows.now l.around.now.end l.levels * 7 + 3

abbrev pub decreases-judge_inmost : goal.decreases-judge_inmost
decreases-judge_inmost l = remaining l.script.now.rows.now l.around.now.end l.levels * 7 + 4

abbrev pub decreases-judge_term : goal.decreases-judge_term
decreases-judge_term l = remaining l.script.now.rows.now l.i l.levels * 7 + 5

abbrev pub decreases-judge_terms : goal.decreases-judge_terms
decreases-judge_terms l = remaining l.script.now.rows.now l.i l.levels * 7 + 6

-- Inwards: the state in which the inner term is judged. Outwards: what has been judged there.
abbrev pub invariant-judge_term-loop-env : goal.invariant-judge_term-loop-env
invariant-judge_term-loop-env l = (length l.env ≡ length l.initial.env) × TableFor l.env l.script.variables × Inwards l.script.rows.now l.i (environment_of l.initial.env) l.count (environment_of l.env)

abbrev pub decreases-judge_term-loop-env : goal.decreases-judge_term-loop-env
decreases-judge_term-loop-env l = l.levels - l.count

abbrev pub invariant-judge_term-loop-k : goal.invariant-judge_term-loop-k
invariant-judge_term-loop-k l = (length l.env ≡ length l.initial.env) × TableFor l.env l.script.variables
    × ((Γ : Environment) → Outwards l.script.variables l.levels l.script.rows.now l.i (later_at l.script.variables l.script.uses.now (has l.named)) l.level Γ l.initial.k (ended l.initial.env l.initial.judged) → Outwards l.script.variables l.levels l.script.rows.now l.i (later_at l.script.variables l.script.uses.now (has l.named)) l.level Γ l.k (ended l.env l.judged))

-- What is left gives the answer of all, and no row comes again.
abbrev pub invariant-judge_terms-loop : goal.invariant-judge_terms-loop
invariant-judge_terms-loop l = IsRest (tree_at l.script.variables l.levels l.script.rows.now) (l.count - l.counter) l.judged.next × (length l.env ≡ length l.initial.env) × Ready l.script.variables l.level l.levels l.script.rows.now l.env l.script.uses.now
    × (rest_at l.script.variables (tree_at l.script.variables l.levels l.script.rows.now) l.level (later_at l.script.variables l.script.uses.now (has l.named)) (l.count - l.counter) l.judged.next (as_value l.env l.judged.value) (environment_of l.env) ≡ rest_at l.script.variables (tree_at l.script.variables l.levels l.script.rows.now) l.level (later_at l.script.variables l.script.uses.now (has l.named)) l.count l.i none (environment_of l.initial.env))
    × (l.i ≤ l.judged.next)
