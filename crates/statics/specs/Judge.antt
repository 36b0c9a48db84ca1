-- The judge on trees (LANGUAGE 3.1): a term, a block's terms, and the whole script. An inner term's refusal is that of the script (3.17).
use Rattle.std.specs.Prelude.{ℕ, suc, Bool, false, drop}
use Rattle.std.proofs.Math.Option.{Option, none, some}
use Rattle.syntax.specs.Result.{ok, need, ◌>>=◌}
use Rattle.syntax.specs.Script.{Term, Terms, number, reading, copy, move, borrow_shared, borrow_exclusive, box, declare, assign, below, block, choice, sum, last, more}
use Rattle.syntax.specs.Measures.{size, sizes}
use Rattle.statics.specs.Links.{is_number}
use Rattle.statics.specs.Environment.{Environment, free, used, Ty, update, is_free}
use Rattle.statics.specs.Choice.{carried}
use Rattle.statics.specs.Uses.{Unfinished, finishing}
use Rattle.statics.specs.Rules.{Judged, Out, number_ty, judge_copy, judge_move, judge_shared, judge_exclusive, judge_box, judge_let, judge_assign, judge_number, judge_below, judge_block_end, judge_choice}

module _ (nv : ℕ) where
  -- level is how many blocks are around the term; a let's variable lives in the innermost of them (LANGUAGE 3.7). It is not that of 2.7.
  -- ns is the terms that have not finished, in the order in which they will (3.32): those in the term first, then itself, then the others.
  -- A number and a reading are never refused (3.18); each other case is the rule of its kind (3.19 to 3.28, 3.31).
  unfoldable mutual
    pub judge : Term → ℕ → Unfinished → Environment → Judged Out
    judge (number i n) level ns Γ = ok (Γ, some number_ty)
    judge (reading i n) level ns Γ = ok (Γ, some number_ty)
    judge (copy i p) level ns Γ = judge_copy nv ns Γ i p
    judge (move i p) level ns Γ = judge_move nv ns Γ i p
    judge (borrow_shared i p) level ns Γ = judge_shared nv ns Γ i p
    judge (borrow_exclusive i p) level ns Γ = judge_exclusive nv ns Γ i p
    judge (box i t) level ns Γ = judge t level ns Γ >>= λ o. judge_box nv o.0 i o.1
    -- Let (LANGUAGE 3.24): the number is free (30), and taken, but not in scope, while the inner term is judged.
    judge (declare i x t) level ns Γ =
        need (is_free (Γ x)) (30, i) >>= λ _.
        judge t level ns (update Γ x used) >>= λ o.
        judge_let nv level o.0 i x o.1
    -- Assign (LANGUAGE 3.25): the right side first, which has finished then (3.32).
    judge (assign i p t) level ns Γ = judge t level ns Γ >>= λ o. judge_assign nv (drop (size t) ns) o.0 i p o.1
    judge (below i p q) level ns Γ = judge_below nv ns Γ i p q
    judge (sum i p q) level ns Γ = judge_below nv ns Γ i p q
    judge (block i ts) level ns Γ = judges ts (suc level) ns Γ >>= λ o. judge_block_end nv level o.0 i o.1
    -- Choice (LANGUAGE 3.31): the place as in below, then both blocks from the same state, but numbers that the first takes stay taken.
    judge (choice i p j us k vs) level ns Γ =
        judge_number nv ns Γ i p >>= λ _.
        (judges us (suc level) ns Γ >>= λ o. judge_block_end nv level o.0 j o.1) >>= λ a.
        (judges vs (suc level) (drop (suc (sizes us)) ns) (carried Γ a.0) >>= λ o. judge_block_end nv level o.0 k o.1) >>= λ b.
        judge_choice nv Γ i a b

    -- A block's terms in order (LANGUAGE 3.28), and the last one's value for the block's (3.4).
    pub judges : Terms → ℕ → Unfinished → Environment → Judged Out
    judges (last t) level ns Γ = judge t level ns Γ
    judges (more t ts) level ns Γ = judge t level ns Γ >>= λ o. judges ts level (drop (size t) ns) o.0

  -- A value that is a number (LANGUAGE 3.29).
  abbrev pub is_answer : Option Ty → Bool
  is_answer none = false
  is_answer (some t) = is_number t.links

  -- At first no number is taken (LANGUAGE 3.1).
  abbrev pub nothing_taken : Environment
  nothing_taken = λ x. free

  -- The script (LANGUAGE 3.29): after the outermost block the answer is a number (43 at 0).
  unfoldable pub judge_script : Term → Judged (Unit {0})
  judge_script t = judge t 0 (finishing t) nothing_taken >>= λ o. need (is_answer o.1) (43, 0)
