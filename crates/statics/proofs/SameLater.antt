-- The judge sees the terms that have not finished only through who is named later.
use Prim.Native.Nat.{ℕ, zero, suc, ◌<◌}
use mathlib.Core.Path.{◌≡◌, refl, sym, ap, ap₂, ◌∙◌}
use mathlib.Core.Bool.{Bool, true, false}
use mathlib.Core.Option.{Option}
use mathlib.Core.List.{[], ◌∷◌, ◌++◌, append_assoc}
use lib.ListN.{drop}
use Rattle.syntax.specs.Result.{pick}
use Rattle.syntax.specs.Script.{Place, Term, number, reading, copy, move, borrow_shared, borrow_exclusive, box, declare, assign, below, block, choice, sum, Terms, last, more}
use Rattle.syntax.specs.Measures.{size, sizes}
use Rattle.statics.specs.Environment.{Borrow, Environment, used, Ty, update}
use Rattle.statics.specs.Uses.{Unfinished, naming, finishing, finishing_all, named_later}
use Rattle.statics.specs.Bars.{borrows_any, borrows_exclusive, held, reachable, in_use}
use Rattle.statics.specs.Choice.{carried}
use Rattle.statics.specs.Rules.{judge_readable, judge_copy, judge_move, judge_shared, judge_exclusive, judge_write, judge_assign, judge_number, judge_below}
use Rattle.statics.specs.Judge.{judge, judges}
use Rattle.statics.specs.Met.{judge_branch}
use Rattle.statics.proofs.Answers.{same_steps}
use Rattle.statics.proofs.Finishing.{left_after, left_after_block, named_either}
use Rattle.statics.proofs.InUse.{held_same}

-- Of the variables below nv, both name the same.
abbrev pub SameLater : ℕ → Unfinished → Unfinished → Type 0
SameLater nv ms ns = (x : ℕ) → x < nv → named_later ms x ≡ named_later ns x

reachable_same : (nv : ℕ) (Γ : Environment) (f g : ℕ → Bool) → ((x : ℕ) → x < nv → f x ≡ g x) → (k x : ℕ) → x < nv → reachable f nv k Γ x ≡ reachable g nv k Γ x
unfolding reachable
reachable_same nv Γ f g e zero x l = refl
reachable_same nv Γ f g e (suc k) x l =
    ap₂ (λ (b c : Bool). elim b [ true ↦ true | false ↦ c ]) (e x l) (held_same borrows_any Γ x (λ y. reachable f nv k Γ y) (λ y. reachable g nv k Γ y) nv (λ y h. reachable_same nv Γ f g e k y h))

module _ (nv : ℕ) where
  -- The same terms before both.
  pub same_append : (ks ms ns : Unfinished) → SameLater nv ms ns → SameLater nv (ks ++ ms) (ks ++ ns)
  same_append ks ms ns S x l = named_either ks ms x ∙ ap (λ (b : Bool). pick (named_later ks x) true b) (S x l) ∙ sym (named_either ks ns x)

  module _ (ms ns : Unfinished) (S : SameLater nv ms ns) where
    -- ---- who is in use, and what is barred

    in_use_same : (Γ : Environment) (x : ℕ) → x < nv → in_use nv ms Γ x ≡ in_use nv ns Γ x
    unfolding in_use
    in_use_same Γ x l = reachable_same nv Γ (λ y. named_later ms y) (λ y. named_later ns y) S nv x l

    barred_same : (h : Borrow → ℕ → Bool) (Γ : Environment) (x : ℕ) → held h (in_use nv ms Γ) nv Γ x ≡ held h (in_use nv ns Γ) nv Γ x
    barred_same h Γ x = held_same h Γ x (in_use nv ms Γ) (in_use nv ns Γ) nv (in_use_same Γ)

    -- ---- the rules

    module _ (Γ : Environment) (i : ℕ) where
      readable_alike : (p : Place) → judge_readable nv ms Γ i p ≡ judge_readable nv ns Γ i p
      unfolding judge_readable
      readable_alike p = simp (barred_same borrows_exclusive Γ)

      copy_alike : (p : Place) → judge_copy nv ms Γ i p ≡ judge_copy nv ns Γ i p
      unfolding judge_copy
      copy_alike p = rw (readable_alike p) refl

      move_alike : (p : Place) → judge_move nv ms Γ i p ≡ judge_move nv ns Γ i p
      unfolding judge_move
      move_alike p = rw (barred_same borrows_any Γ p.root) refl

      shared_alike : (p : Place) → judge_shared nv ms Γ i p ≡ judge_shared nv ns Γ i p
      unfolding judge_shared
      shared_alike p = rw (readable_alike p) refl

      exclusive_alike : (p : Place) → judge_exclusive nv ms Γ i p ≡ judge_exclusive nv ns Γ i p
      unfolding judge_exclusive
      exclusive_alike p = rw (barred_same borrows_any Γ p.root) refl

      assign_alike : (p : Place) (o : Option Ty) → judge_assign nv ms Γ i p o ≡ judge_assign nv ns Γ i p o
      unfolding judge_assign
      assign_alike p o = same_steps (judge_write nv Γ i p o) (judge_write nv Γ i p o) _ _ refl (λ w e. rw (barred_same borrows_any w.0 p.root) refl)

      number_alike : (p : Place) → judge_number nv ms Γ i p ≡ judge_number nv ns Γ i p
      unfolding judge_number
      number_alike p = rw (readable_alike p) refl

      below_alike : (p q : Place) → judge_below nv ms Γ i p q ≡ judge_below nv ns Γ i p q
      unfolding judge_below
      below_alike p q = rw (number_alike p, number_alike q) refl

  -- ---- terms

  -- What is left after a term.
  left_alike : (t : Term) (ms ns later later' : Unfinished) → ms ≡ finishing t ++ later → ns ≡ finishing t ++ later' → SameLater nv later later'
      → SameLater nv (drop (size t) ms) (drop (size t) ns)
  left_alike t ms ns later later' e e' S x l = rw (left_after t ms later e, left_after t ns later' e') (S x l)

  -- Both begin with the terms in this one and itself; later the same are named.
  unfoldable Alike : Term → Type 0
  Alike t = (level : ℕ) (ms ns later later' : Unfinished) (Γ : Environment) → ms ≡ finishing t ++ later → ns ≡ finishing t ++ later' → SameLater nv later later'
      → judge nv t level ms Γ ≡ judge nv t level ns Γ

  unfoldable AlikeAll : Terms → Type 0
  AlikeAll ts = (level : ℕ) (ms ns later later' : Unfinished) (Γ : Environment) → ms ≡ finishing_all ts ++ later → ns ≡ finishing_all ts ++ later' → SameLater nv later later'
      → judges nv ts level ms Γ ≡ judges nv ts level ns Γ

  -- A term without terms in it.
  of_leaf : (t : Term) → ((level : ℕ) (ms ns : Unfinished) (Γ : Environment) → SameLater nv ms ns → judge nv t level ms Γ ≡ judge nv t level ns Γ) → Alike t
  unfolding Alike
  of_leaf t h level ms ns later later' Γ e e' S = h level ms ns Γ (λ x l. rw (e, e') (same_append (finishing t) later later' S x l))

  of_box : (i : ℕ) (t : Term) → Alike t → Alike (box i t)
  unfolding Alike finishing judge
  of_box i t ih level ms ns later later' Γ e e' S =
      rw (ih level ms ns (naming [] ++ later) (naming [] ++ later') Γ (e ∙ append_assoc (finishing t) (naming []) later) (e' ∙ append_assoc (finishing t) (naming []) later')
      (same_append (naming []) later later' S)) refl

  of_let : (i x : ℕ) (t : Term) → Alike t → Alike (declare i x t)
  unfolding Alike finishing judge
  of_let i x t ih level ms ns later later' Γ e e' S =
      let n = naming (x ∷ []) in
      rw (ih level ms ns (n ++ later) (n ++ later') (update Γ x used) (e ∙ append_assoc (finishing t) n later) (e' ∙ append_assoc (finishing t) n later') (same_append n later later' S)) refl

  of_assign : (i : ℕ) (p : Place) (t : Term) → Alike t → Alike (assign i p t)
  unfolding Alike finishing judge
  of_assign i p t ih level ms ns later later' Γ e e' S =
      let n = naming (p.root ∷ []) in
      let f = e ∙ append_assoc (finishing t) n later in
      let f' = e' ∙ append_assoc (finishing t) n later' in
      let S' = same_append n later later' S in
      same_steps (judge nv t level ms Γ) (judge nv t level ns Γ) _ _ (ih level ms ns (n ++ later) (n ++ later') Γ f f' S')
      (λ o q. assign_alike (drop (size t) ms) (drop (size t) ns) (left_alike t ms ns (n ++ later) (n ++ later') f f' S') o.0 i p o.1)

  -- A block, of a choice or not.
  branch : (i : ℕ) (ts : Terms) → AlikeAll ts → (level : ℕ) (ms ns later later' : Unfinished) (Γ : Environment)
      → ms ≡ (finishing_all ts ++ naming []) ++ later → ns ≡ (finishing_all ts ++ naming []) ++ later' → SameLater nv later later' → judge_branch nv ts i level ms Γ ≡ judge_branch nv ts i level ns Γ
  unfolding AlikeAll
  branch i ts ih level ms ns later later' Γ e e' S =
      rw (ih (suc level) ms ns (naming [] ++ later) (naming [] ++ later') Γ (e ∙ append_assoc (finishing_all ts) (naming []) later) (e' ∙ append_assoc (finishing_all ts) (naming []) later')
      (same_append (naming []) later later' S)) refl

  of_block_law : (i : ℕ) (ts : Terms) → AlikeAll ts → Alike (block i ts)
  unfolding Alike finishing judge
  of_block_law i ts ih level ms ns later later' Γ e e' S = branch i ts ih level ms ns later later' Γ e e' S

  of_choice : (i : ℕ) (p : Place) (j : ℕ) (us : Terms) (k : ℕ) (vs : Terms) → AlikeAll us → AlikeAll vs → Alike (choice i p j us k vs)
  unfolding Alike finishing judge
  of_choice i p j us k vs iu iv level ms ns later later' Γ e e' S =
      let n = naming (p.root ∷ []) in
      let first = finishing_all us ++ naming [] in
      let second = finishing_all vs ++ naming [] in
      let f = e ∙ append_assoc first (second ++ n) later in
      let f' = e' ∙ append_assoc first (second ++ n) later' in
      let g = left_after_block us ms ((second ++ n) ++ later) f ∙ append_assoc second n later in
      let g' = left_after_block us ns ((second ++ n) ++ later') f' ∙ append_assoc second n later' in
      let T = same_append (second ++ n) later later' S in
      let all : SameLater nv ms ns = λ x l. rw (f, f') (same_append first ((second ++ n) ++ later) ((second ++ n) ++ later') T x l) in
      same_steps (judge_number nv ms Γ i p) (judge_number nv ns Γ i p) _ _ (number_alike ms ns all Γ i p) (λ u q.
      same_steps (judge_branch nv us j level ms Γ) (judge_branch nv us j level ns Γ) _ _ (branch j us iu level ms ns ((second ++ n) ++ later) ((second ++ n) ++ later') Γ f f' T) (λ a q.
      let dm = drop (suc (sizes us)) ms in
      let dn = drop (suc (sizes us)) ns in
      same_steps (judge_branch nv vs k level dm (carried Γ a.0)) (judge_branch nv vs k level dn (carried Γ a.0)) _ _
      (branch k vs iv level dm dn (n ++ later) (n ++ later') (carried Γ a.0) g g' (same_append n later later' S)) (λ b q. refl)))

  of_last : (t : Term) → Alike t → AlikeAll (last t)
  unfolding Alike AlikeAll finishing judge
  of_last t ih level ms ns later later' Γ e e' S = ih level ms ns later later' Γ e e' S

  of_more : (t : Term) (ts : Terms) → Alike t → AlikeAll ts → AlikeAll (more t ts)
  unfolding Alike AlikeAll finishing judge
  of_more t ts ih ihs level ms ns later later' Γ e e' S =
      let f = e ∙ append_assoc (finishing t) (finishing_all ts) later in
      let f' = e' ∙ append_assoc (finishing t) (finishing_all ts) later' in
      same_steps (judge nv t level ms Γ) (judge nv t level ns Γ) _ _
      (ih level ms ns (finishing_all ts ++ later) (finishing_all ts ++ later') Γ f f' (same_append (finishing_all ts) later later' S))
      (λ o q. ihs level (drop (size t) ms) (drop (size t) ns) later later' o.0 (left_after t ms (finishing_all ts ++ later) f) (left_after t ns (finishing_all ts ++ later') f') S)

  mutual
    unfolding judge

    alike : (t : Term) → Alike t
    alike (number i n) = of_leaf (number i n) (λ level ms ns Γ S. refl)
    alike (reading i n) = of_leaf (reading i n) (λ level ms ns Γ S. refl)
    alike (copy i p) = of_leaf (copy i p) (λ level ms ns Γ S. copy_alike ms ns S Γ i p)
    alike (move i p) = of_leaf (move i p) (λ level ms ns Γ S. move_alike ms ns S Γ i p)
    alike (borrow_shared i p) = of_leaf (borrow_shared i p) (λ level ms ns Γ S. shared_alike ms ns S Γ i p)
    alike (borrow_exclusive i p) = of_leaf (borrow_exclusive i p) (λ level ms ns Γ S. exclusive_alike ms ns S Γ i p)
    alike (box i t) = of_box i t (alike t)
    alike (declare i x t) = of_let i x t (alike t)
    alike (assign i p t) = of_assign i p t (alike t)
    alike (below i p q) = of_leaf (below i p q) (λ level ms ns Γ S. below_alike ms ns S Γ i p q)
    alike (block i ts) = of_block_law i ts (all_alike ts)
    alike (choice i p j us k vs) = of_choice i p j us k vs (all_alike us) (all_alike vs)
    alike (sum i p q) = of_leaf (sum i p q) (λ level ms ns Γ S. below_alike ms ns S Γ i p q)

    all_alike : (ts : Terms) → AlikeAll ts
    all_alike (last t) = of_last t (alike t)
    all_alike (more t ts) = of_more t ts (alike t) (all_alike ts)

  -- Judging a term, whatever comes after it: of that only who is named counts.
  pub judged_alike : (t : Term) (level : ℕ) (ms ns : Unfinished) (Γ : Environment) → SameLater nv ms ns → judge nv t level (finishing t ++ ms) Γ ≡ judge nv t level (finishing t ++ ns) Γ
  unfolding Alike
  judged_alike t level ms ns Γ S = alike t level (finishing t ++ ms) (finishing t ++ ns) ms ns Γ refl refl S

  pub all_judged_alike : (ts : Terms) (level : ℕ) (ms ns : Unfinished) (Γ : Environment) → SameLater nv ms ns
      → judges nv ts level (finishing_all ts ++ ms) Γ ≡ judges nv ts level (finishing_all ts ++ ns) Γ
  unfolding AlikeAll
  all_judged_alike ts level ms ns Γ S = all_alike ts level (finishing_all ts ++ ms) (finishing_all ts ++ ns) ms ns Γ refl refl S
