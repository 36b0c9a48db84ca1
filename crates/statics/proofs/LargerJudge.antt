-- The judge says the same of a script under any greater number of variables: acceptance, value, environment, refusal and term.
use Prim.Native.Nat.{ℕ, suc, ◌+◌, ◌≤◌}
use mathlib.Core.Path.{◌≡◌, refl}
use mathlib.Core.Option.{Option, none, some}
use lib.ListN.{drop}
use Rattle.syntax.specs.Result.{Refusal, need}
use Rattle.syntax.specs.Limits.{Limits}
use Rattle.syntax.specs.Larger.{NoSmaller}
use Rattle.syntax.specs.Script.{Place, Term, number, reading, copy, move, borrow_shared, borrow_exclusive, box, declare, assign, below, block, choice, sum, Terms, last, more}
use Rattle.syntax.specs.Measures.{size, sizes}
use Rattle.syntax.specs.Within.{Formed, FormedAll, Within}
use Rattle.statics.specs.Environment.{used, Environment, Ty, update, is_free}
use Rattle.statics.specs.Uses.{Unfinished, finishing}
use Rattle.statics.specs.Choice.{carried}
use Rattle.statics.specs.Rules.{Out, judge_number, judge_box, judge_let, judge_block_end, judge_choice}
use Rattle.statics.specs.Judge.{judge, judges, is_answer, nothing_taken, judge_script}
use Rattle.statics.specs.Neat.{Neat}
use Rattle.statics.specs.Met.{judge_branch}
use Rattle.syntax.proofs.Answers.{needed}
use Rattle.statics.proofs.Answers.{same_steps, was_free}
use Rattle.statics.proofs.NeatSteps.{neat_take}
use Rattle.statics.proofs.NeatBlocks.{neat_enter, neat_carried}
use Rattle.statics.proofs.NeatJudged.{NeatAfter, neat_after, neat_start, formed_lets}
use Rattle.statics.proofs.LargerRules.{copy_same, number_same, below_same, move_same, shared_same, exclusive_same, assign_same}

-- What does not look at the number of variables.
box_same : (nv nv' : ℕ) (Γ : Environment) (i : ℕ) (o : Option Ty) → judge_box nv' Γ i o ≡ judge_box nv Γ i o
unfolding judge_box
box_same nv nv' Γ i o = refl

let_same : (nv nv' level : ℕ) (Γ : Environment) (i x : ℕ) (o : Option Ty) → judge_let nv' level Γ i x o ≡ judge_let nv level Γ i x o
unfolding judge_let
let_same nv nv' level Γ i x o = refl

block_end_same : (nv nv' level : ℕ) (Γ : Environment) (i : ℕ) (o : Option Ty) → judge_block_end nv' level Γ i o ≡ judge_block_end nv level Γ i o
unfolding judge_block_end
block_end_same nv nv' level Γ i none = refl
block_end_same nv nv' level Γ i (some t) = refl

choice_same : (nv nv' : ℕ) (Γ : Environment) (i : ℕ) (a b : Out) → judge_choice nv' Γ i a b ≡ judge_choice nv Γ i a b
unfolding judge_choice
choice_same nv nv' Γ i a b = refl

module _ (l : Limits) (nv' : ℕ) (le : l.variables ≤ nv') where
  abbrev nv : ℕ
  nv = l.variables

  unfoldable Same : Term → Type 0
  Same t = (n level : ℕ) (ns : Unfinished) (Γ : Environment) → Formed l n t → Neat nv Γ level → judge nv' t level ns Γ ≡ judge nv t level ns Γ

  unfoldable SameAll : Terms → Type 0
  SameAll ts = (n level : ℕ) (ns : Unfinished) (Γ : Environment) → FormedAll l n ts → Neat nv Γ level → judges nv' ts level ns Γ ≡ judges nv ts level ns Γ

  branch : (i : ℕ) (ts : Terms) → SameAll ts → (n level : ℕ) (ns : Unfinished) (Γ : Environment) → FormedAll l n ts → Neat nv Γ level → judge_branch nv' ts i level ns Γ ≡ judge_branch nv ts i level ns Γ
  unfolding SameAll
  branch i ts ih n level ns Γ f N =
      same_steps (judges nv' ts (suc level) ns Γ) (judges nv ts (suc level) ns Γ) _ _ (ih n (suc level) ns Γ f (neat_enter N)) (λ o e. block_end_same nv nv' level o.0 i o.1)

  of_block_law : (i : ℕ) (ts : Terms) → SameAll ts → Same (block i ts)
  unfolding Same Formed judge
  of_block_law i ts ih n level ns Γ f N = branch i ts ih (suc n) level ns Γ f.2 N

  of_choice : (i : ℕ) (p : Place) (j : ℕ) (us : Terms) (k : ℕ) (vs : Terms) → SameAll us → SameAll vs → Same (choice i p j us k vs)
  unfolding Same Formed judge
  of_choice i p j us k vs iu iv n level ns Γ f N =
      same_steps (judge_number nv' ns Γ i p) (judge_number nv ns Γ i p) _ _ (number_same nv nv' le N ns i p) (λ u e.
      same_steps (judge_branch nv' us j level ns Γ) (judge_branch nv us j level ns Γ) _ _ (branch j us iu (suc (suc n)) level ns Γ f.2.2 N) (λ a e.
      same_steps (judge_branch nv' vs k level (drop (suc (sizes us)) ns) (carried Γ a.0)) (judge_branch nv vs k level (drop (suc (sizes us)) ns) (carried Γ a.0)) _ _
      (branch k vs iv (suc (suc n + suc (sizes us))) level (drop (suc (sizes us)) ns) (carried Γ a.0) f.3.2 (neat_carried a.0 N)) (λ b e. choice_same nv nv' Γ i a b)))

  of_box : (i : ℕ) (t : Term) → Same t → Same (box i t)
  unfolding Same Formed judge
  of_box i t ih n level ns Γ f N = same_steps (judge nv' t level ns Γ) (judge nv t level ns Γ) _ _ (ih (suc n) level ns Γ f.2 N) (λ o e. box_same nv nv' o.0 i o.1)

  of_let : (i x : ℕ) (t : Term) → Same t → Same (declare i x t)
  unfolding Same Formed judge
  of_let i x t ih n level ns Γ f N =
      same_steps (need (is_free (Γ x)) (30, i)) (need (is_free (Γ x)) (30, i)) _ _ refl (λ u e.
      same_steps (judge nv' t level ns (update Γ x used)) (judge nv t level ns (update Γ x used)) _ _
      (ih (suc n) level ns (update Γ x used) f.2 (neat_take x (was_free (Γ x) (needed _ _ _ e)) N)) (λ o e. let_same nv nv' level o.0 i x o.1))

  of_assign : (i : ℕ) (p : Place) (t : Term) → Same t → Same (assign i p t)
  unfolding Same Formed judge NeatAfter
  of_assign i p t ih n level ns Γ f N =
      same_steps (judge nv' t level ns Γ) (judge nv t level ns Γ) _ _ (ih (suc n) level ns Γ f.2 N)
      (λ o e. let A = neat_after nv t level ns Γ o (formed_lets l (suc n) t f.2) e N in assign_same nv nv' le A.neat (drop (size t) ns) i p o.1 A.value)

  of_leaf : (t : Term) → ((level : ℕ) (ns : Unfinished) (Γ : Environment) → Neat nv Γ level → judge nv' t level ns Γ ≡ judge nv t level ns Γ) → Same t
  unfolding Same
  of_leaf t h n level ns Γ f N = h level ns Γ N

  of_last : (t : Term) → Same t → SameAll (last t)
  unfolding Same SameAll Formed judge
  of_last t ih n level ns Γ f N = ih n level ns Γ f N

  of_more : (t : Term) (ts : Terms) → Same t → SameAll ts → SameAll (more t ts)
  unfolding Same SameAll Formed judge NeatAfter
  of_more t ts ih ihs n level ns Γ f N =
      same_steps (judge nv' t level ns Γ) (judge nv t level ns Γ) _ _ (ih n level ns Γ f.0 N)
      (λ o e. ihs (n + size t) level (drop (size t) ns) o.0 f.1 (neat_after nv t level ns Γ o (formed_lets l n t f.0) e N).neat)

  mutual
    unfolding judge

    same : (t : Term) → Same t
    same (number i n) = of_leaf (number i n) (λ level ns Γ N. refl)
    same (reading i n) = of_leaf (reading i n) (λ level ns Γ N. refl)
    same (copy i p) = of_leaf (copy i p) (λ level ns Γ N. copy_same nv nv' le N ns i p)
    same (move i p) = of_leaf (move i p) (λ level ns Γ N. move_same nv nv' le N ns i p)
    same (borrow_shared i p) = of_leaf (borrow_shared i p) (λ level ns Γ N. shared_same nv nv' le N ns i p)
    same (borrow_exclusive i p) = of_leaf (borrow_exclusive i p) (λ level ns Γ N. exclusive_same nv nv' le N ns i p)
    same (box i t) = of_box i t (same t)
    same (declare i x t) = of_let i x t (same t)
    same (assign i p t) = of_assign i p t (same t)
    same (below i p q) = of_leaf (below i p q) (λ level ns Γ N. below_same nv nv' le N ns i p q)
    same (block i ts) = of_block_law i ts (same_all ts)
    same (choice i p j us k vs) = of_choice i p j us k vs (same_all us) (same_all vs)
    same (sum i p q) = of_leaf (sum i p q) (λ level ns Γ N. below_same nv nv' le N ns i p q)

    same_all : (ts : Terms) → SameAll ts
    same_all (last t) = of_last t (same t)
    same_all (more t ts) = of_more t ts (same t) (same_all ts)

  -- From nothing taken: the whole answer of the judge.
  pub judged_same : (t : Term) → Within l t → judge nv' t 0 (finishing t) (nothing_taken nv') ≡ judge nv t 0 (finishing t) (nothing_taken nv)
  unfolding Same
  judged_same t W = same t 0 0 (finishing t) (nothing_taken nv) W.formed (neat_start nv)

-- The verdict on a script within the limits is that under any that are nowhere smaller.
pub verdict_same : (l l' : Limits) → NoSmaller l l' → (t : Term) → Within l t → judge_script l'.variables t ≡ judge_script l.variables t
unfolding judge_script
verdict_same l l' le t W =
    same_steps (judge l'.variables t 0 (finishing t) (nothing_taken l'.variables)) (judge l.variables t 0 (finishing t) (nothing_taken l.variables)) _ _
    (judged_same l l'.variables le.variables t W) (λ o e. answer o)
  where
    answer : (o : Out) → need {E = Refusal} (is_answer l'.variables o.1) (43, 0) ≡ need {E = Refusal} (is_answer l.variables o.1) (43, 0)
    answer (Γ, none) = refl
    answer (Γ, some t) = refl
