-- The numbers of refusals of the ownership rules (LANGUAGE 5.5): 30 to 43.
use Prim.Native.Nat.{ℕ, suc, ◌≤◌}
use mathlib.Core.Path.{◌≡◌}
use mathlib.Core.Option.{Option, none, some}
use Rattle.syntax.specs.Result.{err, Refusal}
use Rattle.syntax.specs.Script.{Place, Term, number, reading, copy, move, borrow_shared, borrow_exclusive, box, declare, assign, below, block, choice, sum, Terms, last, more}
use Rattle.syntax.proofs.NumberRanges.{Only, onward, steps}
use Rattle.statics.specs.Environment.{Slot, free, used, live, Environment, Ty}
use Rattle.statics.specs.Follow.{Met}
use Rattle.statics.specs.Uses.{Unfinished}
use Rattle.statics.specs.Rules.{in_scope, reached, valued, judge_place, judge_readable, judge_copy, judge_move, recorded_places, judge_shared, judge_exclusive, judge_box, judge_let, judge_write, judge_assign, judge_number, judge_below, judge_block_end, judge_choice}
use Rattle.statics.specs.Judge.{judge, judges, judge_script}

scope_only : (sl : Slot) (i : ℕ) → Only 30 43 (in_scope sl (31, i))
unfolding in_scope
scope_only free i = search steps
scope_only used i = search steps
scope_only (live v) i = search steps

reached_only : (o : Met) (i : ℕ) → Only 30 43 (reached o (33, i))
unfolding reached
reached_only none i = search steps
reached_only (some q) i = search steps

valued_only : (o : Option Ty) (i : ℕ) → Only 30 43 (valued o (41, i))
unfolding valued
valued_only none i = search steps
valued_only (some t) i = search steps

ruleset of-rules = (steps, scope_only, reached_only, valued_only)

module _ (nv : ℕ) where
  number_only : (ns : Unfinished) (Γ : Environment) (i : ℕ) (p : Place) → Only 30 43 (judge_number nv ns Γ i p)
  unfolding judge_number judge_readable judge_place
  number_only ns Γ i p = search of-rules depth 8

  recorded_only : (Γ : Environment) (i : ℕ) (p : Place) (passed : Option ℕ) → Only 30 43 (recorded_places nv Γ i p passed)
  unfolding recorded_places judge_place
  recorded_only Γ i p none = search of-rules
  recorded_only Γ i p (some j) = search of-rules depth 8

  -- The other rules are unfolded too. An inner term comes first, then the rule.
  mutual
    unfolding judge judge_place judge_readable judge_copy judge_move judge_shared judge_exclusive judge_box judge_let judge_write judge_assign judge_below judge_block_end judge_choice

    judge_only : (t : Term) (level : ℕ) (ns : Unfinished) (Γ : Environment) → Only 30 43 (judge nv t level ns Γ)
    judge_only (number i n) level ns Γ = search of-rules
    judge_only (reading i n) level ns Γ = search of-rules
    judge_only (copy i p) level ns Γ = search of-rules depth 8
    judge_only (move i p) level ns Γ = search of-rules depth 8
    judge_only (borrow_shared i p) level ns Γ = search (of-rules, recorded_only) depth 8
    judge_only (borrow_exclusive i p) level ns Γ = search of-rules depth 8
    judge_only (box i t) level ns Γ = onward (judge_only t level ns Γ) (λ o. search of-rules)
    judge_only (declare i x t) level ns Γ = onward (search of-rules) (λ u. onward (judge_only t level ns _) (λ o. search of-rules))
    judge_only (assign i p t) level ns Γ = onward (judge_only t level ns Γ) (λ o. search of-rules depth 8)
    judge_only (below i p q) level ns Γ = search (of-rules, number_only)
    judge_only (sum i p q) level ns Γ = search (of-rules, number_only)
    judge_only (block i ts) level ns Γ = onward (judges_only ts (suc level) ns Γ) (λ o. search of-rules)
    judge_only (choice i p j us k vs) level ns Γ =
        onward (number_only ns Γ i p) (λ u.
        onward (onward (judges_only us (suc level) ns Γ) (λ o. search of-rules)) (λ a.
        onward (onward (judges_only vs (suc level) _ _) (λ o. search of-rules)) (λ b. search of-rules)))

    judges_only : (ts : Terms) (level : ℕ) (ns : Unfinished) (Γ : Environment) → Only 30 43 (judges nv ts level ns Γ)
    judges_only (last t) level ns Γ = judge_only t level ns Γ
    judges_only (more t ts) level ns Γ = onward (judge_only t level ns Γ) (λ o. judges_only ts level _ o.0)

  pub script_only : (t : Term) → Only 30 43 (judge_script nv t)
  unfolding judge_script
  script_only t = search (steps, judge_only)

-- The numbers that the ownership rules can answer (LANGUAGE 5.5): 30 to 43.
pub author_numbers : (nv : ℕ) (t : Term) (e : Refusal) → judge_script nv t ≡ err e → (30 ≤ e.0) × (e.0 ≤ 43)
author_numbers nv t = (script_only nv t).number_in
