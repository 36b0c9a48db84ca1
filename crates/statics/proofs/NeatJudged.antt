-- Every term that is accepted in a neat state leaves one, and every state that judging meets is neat.
use Prim.Native.Nat.{ℕ, suc, ◌+◌}
use mathlib.Core.Path.{◌≡◌, subst}
use mathlib.Core.Option.{Option, some}
use lib.ListN.{drop}
use Rattle.syntax.specs.Result.{ok, need}
use Rattle.syntax.specs.Limits.{Limits}
use Rattle.syntax.specs.Script.{Place, Term, number, reading, copy, move, borrow_shared, borrow_exclusive, box, declare, assign, below, block, choice, sum, Terms, last, more}
use Rattle.syntax.specs.Kinds.{fields}
use Rattle.syntax.specs.Measures.{size, sizes}
use Rattle.syntax.specs.Within.{Formed, FormedAll, Within}
use Rattle.statics.specs.Environment.{used, Environment, Ty, update, is_free}
use Rattle.statics.specs.Choice.{carried}
use Rattle.statics.specs.Uses.{Unfinished, finishing}
use Rattle.statics.specs.Rules.{Out, number_ty, judge_number, judge_below}
use Rattle.statics.specs.Judge.{judge, judges, nothing_taken}
use Rattle.statics.specs.Neat.{Neat, NeatValue, LetsBelow, LetsBelowAll}
use Rattle.statics.specs.Met.{judge_branch, Meets, begins, ends, in_box, in_let, in_assign, in_block, in_first_block, after_first_block, in_second_block, MeetsAll, in_last, in_first, in_rest}
use Rattle.syntax.proofs.Answers.{then, needed}
use Rattle.statics.proofs.Answers.{was_free}
use Rattle.statics.proofs.Slots.{free≢live, update_same, carried_live, live_carried}
use Rattle.statics.proofs.NeatSteps.{Lived, Fine, no_value, number_value, same_state, fine_then, neat_take}
use Rattle.statics.proofs.NeatTerms.{neat_copy, neat_move, neat_shared, neat_exclusive, neat_box, neat_let, declared_fine}
use Rattle.statics.proofs.NeatAssign.{neat_assign}
use Rattle.statics.proofs.NeatBlocks.{neat_block_end, neat_enter, neat_carried, neat_choice}

-- Nothing is taken.
pub neat_start : (nv : ℕ) → Neat nv (nothing_taken nv) 0
neat_start nv = record { low = λ x v e. absurd (free≢live e); deep = λ x v e. absurd (free≢live e); holds = λ x v e. absurd (free≢live e) }

-- A script that is formed has only such lets.
mutual
  unfolding Formed FormedAll LetsBelow LetsBelowAll fields

  pub formed_lets : (l : Limits) (n : ℕ) (t : Term) → Formed l n t → LetsBelow l.variables t
  formed_lets l n (number i m) f = tt
  formed_lets l n (reading i m) f = tt
  formed_lets l n (copy i p) f = tt
  formed_lets l n (move i p) f = tt
  formed_lets l n (borrow_shared i p) f = tt
  formed_lets l n (borrow_exclusive i p) f = tt
  formed_lets l n (box i t) f = formed_lets l (suc n) t f.2
  formed_lets l n (declare i x t) f = (f.1.0.1, formed_lets l (suc n) t f.2)
  formed_lets l n (assign i p t) f = formed_lets l (suc n) t f.2
  formed_lets l n (below i p q) f = tt
  formed_lets l n (block i ts) f = formed_lets_all l (suc n) ts f.2
  formed_lets l n (choice i p j us k vs) f = (formed_lets_all l (suc (suc n)) us f.2.2, formed_lets_all l (suc (suc n + suc (sizes us))) vs f.3.2)
  formed_lets l n (sum i p q) f = tt

  formed_lets_all : (l : Limits) (n : ℕ) (ts : Terms) → FormedAll l n ts → LetsBelowAll l.variables ts
  formed_lets_all l n (last t) f = formed_lets l n t f
  formed_lets_all l n (more t ts) f = (formed_lets l n t f.0, formed_lets_all l (n + size t) ts f.1)

module _ (nv : ℕ) where
  unfoldable pub NeatAfter : Term → Type 0
  NeatAfter t = (level : ℕ) (ns : Unfinished) (Γ : Environment) (out : Out) → LetsBelow nv t → judge nv t level ns Γ ≡ ok out → Neat nv Γ level → Fine nv Γ out.0 out.1 level

  unfoldable pub NeatAfterAll : Terms → Type 0
  NeatAfterAll ts = (level : ℕ) (ns : Unfinished) (Γ : Environment) (out : Out) → LetsBelowAll nv ts → judges nv ts level ns Γ ≡ ok out → Neat nv Γ level → Fine nv Γ out.0 out.1 level

  -- ---- blocks

  pub branch : (i : ℕ) (ts : Terms) → NeatAfterAll ts → (level : ℕ) (ns : Unfinished) (Γ : Environment) (out : Out) → LetsBelowAll nv ts → judge_branch nv ts i level ns Γ ≡ ok out → Neat nv Γ level
      → (Fine nv Γ out.0 out.1 level) × (Lived Γ out.0)
  unfolding NeatAfterAll
  branch i ts ih level ns Γ out f h N =
      let a = then (judges nv ts (suc level) ns Γ) _ out h in
      neat_block_end level i out N (ih (suc level) ns Γ a.0 f a.1 (neat_enter N)) a.2

  of_block_law : (i : ℕ) (ts : Terms) → NeatAfterAll ts → NeatAfter (block i ts)
  unfolding NeatAfter LetsBelow judge
  of_block_law i ts ih level ns Γ out f h N = (branch i ts ih level ns Γ out f h N).0

  of_choice : (i : ℕ) (p : Place) (j : ℕ) (us : Terms) (k : ℕ) (vs : Terms) → NeatAfterAll us → NeatAfterAll vs → NeatAfter (choice i p j us k vs)
  unfolding NeatAfter LetsBelow judge carried
  of_choice i p j us k vs iu iv level ns Γ out f h N =
      let a = then (judge_number nv ns Γ i p) _ out h in
      let A = then (judge_branch nv us j level ns Γ) _ out a.2 in
      let B = then (judge_branch nv vs k level (drop (suc (sizes us)) ns) (carried Γ A.0.0)) _ out A.2 in
      let F = branch j us iu level ns Γ A.0 f.0 A.1 N in
      let G = branch k vs iv level (drop (suc (sizes us)) ns) (carried Γ A.0.0) B.0 f.1 B.1 (neat_carried A.0.0 N) in
      neat_choice N F.0.neat G.0.neat F.0.lives (λ x v e. G.0.lives x v (live_carried (Γ x) (A.0.0 x) v e)) F.1
      (λ x q e. let c = G.1 x q e in (c.0, carried_live (Γ x) (A.0.0 x) c.0 c.1, c.2)) i A.0.1 B.0.1 out F.0.value G.0.value B.2

  -- ---- terms around one inner term

  of_let : (i x : ℕ) (t : Term) → NeatAfter t → NeatAfter (declare i x t)
  unfolding NeatAfter LetsBelow judge
  of_let i x t ih level ns Γ out w h N =
      let f = then (need (is_free (Γ x)) (30, i)) _ out h in
      let fx = was_free (Γ x) (needed _ _ _ f.1) in
      let a = then (judge nv t level ns (update Γ x used)) _ out f.2 in
      let F = ih level ns (update Γ x used) a.0 w.1 a.1 (neat_take x fx N) in
      let D = neat_let F.neat i x a.0.1 out (F.taken x (update_same Γ x used)) w.0 F.value a.2 in
      declared_fine x out fx F D

  of_box : (i : ℕ) (t : Term) → NeatAfter t → NeatAfter (box i t)
  unfolding NeatAfter LetsBelow judge
  of_box i t ih level ns Γ out w h N =
      let a = then (judge nv t level ns Γ) _ out h in
      let F = ih level ns Γ a.0 w a.1 N in
      fine_then F (neat_box F.neat i a.0.1 out F.value a.2)

  of_assign : (i : ℕ) (p : Place) (t : Term) → NeatAfter t → NeatAfter (assign i p t)
  unfolding NeatAfter LetsBelow judge
  of_assign i p t ih level ns Γ out w h N =
      let a = then (judge nv t level ns Γ) _ out h in
      let F = ih level ns Γ a.0 w a.1 N in
      fine_then F (neat_assign F.neat (drop (size t) ns) i p a.0.1 out F.value a.2)

  -- ---- terms whose value is a number

  of_number : (t : Term) → ((level : ℕ) (ns : Unfinished) (Γ : Environment) (out : Out) → judge nv t level ns Γ ≡ ok out → (Γ, some number_ty) ≡ out) → NeatAfter t
  unfolding NeatAfter
  of_number t f level ns Γ out w h N = subst (λ (k : Out). Fine nv Γ k.0 k.1 level) (f level ns Γ out h) (same_state N (number_value Γ level))

  two_numbers : (ns : Unfinished) (Γ : Environment) (i : ℕ) (p q : Place) (out : Out) → judge_below nv ns Γ i p q ≡ ok out → (Γ, some number_ty) ≡ out
  unfolding judge_below
  two_numbers ns Γ i p q out h =
      let a = then (judge_number nv ns Γ i p) _ out h in
      let b = then (judge_number nv ns Γ i q) _ out a.2 in
      let k = b.2 in cc

  of_leaf : (t : Term) → ((level : ℕ) (ns : Unfinished) (Γ : Environment) (out : Out) → Neat nv Γ level → judge nv t level ns Γ ≡ ok out → Fine nv Γ out.0 out.1 level) → NeatAfter t
  unfolding NeatAfter
  of_leaf t f level ns Γ out w h N = f level ns Γ out N h

  -- ---- the terms of a block

  of_last : (t : Term) → NeatAfter t → NeatAfterAll (last t)
  unfolding NeatAfter NeatAfterAll LetsBelow judge
  of_last t ih level ns Γ out w h N = ih level ns Γ out w h N

  of_more : (t : Term) (ts : Terms) → NeatAfter t → NeatAfterAll ts → NeatAfterAll (more t ts)
  unfolding NeatAfter NeatAfterAll LetsBelow judge
  of_more t ts ih ihs level ns Γ out w h N =
      let a = then (judge nv t level ns Γ) _ out h in
      let F = ih level ns Γ a.0 w.0 a.1 N in
      fine_then F (ihs level (drop (size t) ns) a.0.0 out w.1 a.2 F.neat)

  mutual
    unfolding judge

    -- In a neat state, an accepted term leaves one.
    pub neat_after : (t : Term) → NeatAfter t
    neat_after (number i n) = of_number (number i n) (λ level ns Γ out h. cc)
    neat_after (reading i n) = of_number (reading i n) (λ level ns Γ out h. cc)
    neat_after (copy i p) = of_leaf (copy i p) (λ level ns Γ out N h. neat_copy N ns i p out h)
    neat_after (move i p) = of_leaf (move i p) (λ level ns Γ out N h. neat_move N ns i p out h)
    neat_after (borrow_shared i p) = of_leaf (borrow_shared i p) (λ level ns Γ out N h. neat_shared N ns i p out h)
    neat_after (borrow_exclusive i p) = of_leaf (borrow_exclusive i p) (λ level ns Γ out N h. neat_exclusive N ns i p out h)
    neat_after (box i t) = of_box i t (neat_after t)
    neat_after (declare i x t) = of_let i x t (neat_after t)
    neat_after (assign i p t) = of_assign i p t (neat_after t)
    neat_after (below i p q) = of_number (below i p q) (λ level ns Γ out h. two_numbers ns Γ i p q out h)
    neat_after (block i ts) = of_block_law i ts (neat_after_all ts)
    neat_after (choice i p j us k vs) = of_choice i p j us k vs (neat_after_all us) (neat_after_all vs)
    neat_after (sum i p q) = of_number (sum i p q) (λ level ns Γ out h. two_numbers ns Γ i p q out h)

    pub neat_after_all : (ts : Terms) → NeatAfterAll ts
    neat_after_all (last t) = of_last t (neat_after t)
    neat_after_all (more t ts) = of_more t ts (neat_after t) (neat_after_all ts)

  -- ---- inside a term too

  mutual
    unfolding NeatAfter NeatAfterAll LetsBelow carried

    neat_inside : {t : Term} {level : ℕ} {ns : Unfinished} {Γ Δ : Environment} {m : ℕ} {o : Option Ty} → LetsBelow nv t → Neat nv Γ level → Meets nv t level ns Γ Δ m o
        → (Neat nv Δ m) × (NeatValue Δ m o)
    neat_inside {t} {level} {ns} {Γ} w N begins = (N, no_value Γ level)
    neat_inside {t} {level} {ns} {Γ} {Δ} {m} {o} w N (ends h) = let F = neat_after t level ns Γ (Δ, o) w h N in (F.neat, F.value)
    neat_inside w N (in_box M) = neat_inside w N M
    neat_inside w N (in_let {i} {x} e M) = neat_inside w.1 (neat_take x e N) M
    neat_inside w N (in_assign M) = neat_inside w N M
    neat_inside w N (in_block M) = neat_inside_all w (neat_enter N) M
    neat_inside w N (in_first_block M) = neat_inside_all w.0 (neat_enter N) M
    neat_inside {t} {level} {ns} {Γ} {Δ} {m} {o} w N (after_first_block {j = j} {us = us} h) =
        let F = branch j us (neat_after_all us) level ns Γ (Δ, o) w.0 h N in (F.0.neat, F.0.value)
    neat_inside w N (in_second_block {us = us} a h M) = neat_inside_all w.1 (neat_enter (neat_carried a.0 N)) M

    neat_inside_all : {ts : Terms} {level : ℕ} {ns : Unfinished} {Γ Δ : Environment} {m : ℕ} {o : Option Ty} → LetsBelowAll nv ts → Neat nv Γ level → MeetsAll nv ts level ns Γ Δ m o
        → (Neat nv Δ m) × (NeatValue Δ m o)
    neat_inside_all w N (in_last M) = neat_inside w N M
    neat_inside_all w N (in_first M) = neat_inside w.0 N M
    neat_inside_all {ts} {level} {ns} {Γ} w N (in_rest {t} a h M) = neat_inside_all w.1 (neat_after t level ns Γ a w.0 h N).neat M

-- Every state that judging a script within the limits meets, and the value in flight there, are neat.
pub all_neat : (l : Limits) (t : Term) → Within l t → (Δ : Environment) (m : ℕ) (o : Option Ty) → Meets l.variables t 0 (finishing t) (nothing_taken l.variables) Δ m o → (Neat l.variables Δ m) × (NeatValue Δ m o)
all_neat l t W Δ m o M = neat_inside l.variables (formed_lets l 0 t W.formed) (neat_start l.variables) M
