-- One rule after the other says the same under any greater number of variables, in a neat state.
use Prim.Native.Nat.{ℕ, zero, suc, ◌+◌, ◌-◌, ◌≤◌, ◌<◌}
use native.Mathlib.Omega.{arith}
use mathlib.Core.Path.{◌≡◌, refl, sym, ap, ◌∙◌}
use mathlib.Core.Bool.{Bool, true, false, not}
use mathlib.Core.Option.{Option, none, some}
use mathlib.Core.List.{[]}
use lib.ListN.{length, take}
use lib.Dec.{leb}
use borrow.Author.Tests.{leb-true}
use Rattle.syntax.specs.Result.{need}
use Rattle.syntax.specs.Script.{Place}
use Rattle.statics.specs.Links.{leading_boxes, no_shared, last_shared}
use Rattle.statics.specs.Environment.{Borrow, Variable, live, Environment, Ty}
use Rattle.statics.specs.Follow.{Met, follow, whole_there, value_whole}
use Rattle.statics.specs.Uses.{Unfinished}
use Rattle.statics.specs.Bars.{borrows_any, borrows_exclusive, held_by, held, in_use, write_barred}
use Rattle.statics.specs.Rules.{in_scope, reached, judge_place, judge_readable, judge_copy, judge_move, recorded_places, judge_shared, judge_exclusive, judge_write, judge_assign, judge_number, judge_below}
use Rattle.statics.specs.Neat.{place, Neat, NeatValue}
use Rattle.syntax.proofs.Answers.{needed}
use Rattle.statics.proofs.Answers.{same_bool, same_steps, scoped}
use Rattle.statics.proofs.InUse.{held_out, held_same, in_use_is}
use Rattle.statics.proofs.NeatPaths.{led}
use Rattle.statics.proofs.NeatAssign.{neat_write}
use Rattle.statics.proofs.FollowBound.{never_short}

abbrev Low : ℕ → Environment → Type 0
Low nv Γ = (x : ℕ) (v : Variable) → Γ x ≡ live v → x < nv

-- ---- holders

module _ (h : Borrow → ℕ → Bool) (Γ : Environment) (x : ℕ) where
  -- Numbers that are not in scope hold nothing.
  held_more : (nv : ℕ) → Low nv Γ → (f : ℕ → Bool) (j : ℕ) → held h f (j + nv) Γ x ≡ held h f nv Γ x
  unfolding held
  held_more nv lo f zero = let e : zero + nv ≡ nv = omega arith in ap (λ (k : ℕ). held h f k Γ x) e
  held_more nv lo f (suc j) = let e : suc j + nv ≡ suc (j + nv) = omega arith in ap (λ (k : ℕ). held h f k Γ x) e ∙ go (held_by h (Γ (j + nv)) x) refl (held_more nv lo f j)
    where
      go : (a : Bool) → held_by h (Γ (j + nv)) x ≡ a → held h f (j + nv) Γ x ≡ held h f nv Γ x → elim a [ true ↦ elim (f (j + nv)) [ true ↦ true | false ↦ held h f (j + nv) Γ x ] | false ↦ held h f (j + nv) Γ x ] ≡ held h f nv Γ x
      go true e ih = absurd (let k = held_out h (Γ (j + nv)) x e in let z = lo (j + nv) k.0 k.1 in omega arith)
      go false e ih = ih

module _ (nv nv' : ℕ) (le : nv ≤ nv') where
  -- ---- who is in use, and what is barred

  module _ (ns : Unfinished) (Γ : Environment) (lo : Low nv Γ) where
    in_use_same : (x : ℕ) → x < nv → in_use nv' ns Γ x ≡ in_use nv ns Γ x
    in_use_same x l =
        let few = in_use_is nv ns Γ lo x l in
        let many = in_use_is nv' ns Γ (λ y v e. let k = lo y v e in omega arith) x (omega arith) in
        same_bool (in_use nv' ns Γ x) (in_use nv ns Γ x) (λ u. few.1 (many.0 u)) (λ u. many.1 (few.0 u))

    barred_same : (h : Borrow → ℕ → Bool) (x : ℕ) → held h (in_use nv' ns Γ) nv' Γ x ≡ held h (in_use nv ns Γ) nv Γ x
    barred_same h x =
        let j : (nv' - nv) + nv ≡ nv' = omega arith in
        ap (λ (k : ℕ). held h (in_use nv' ns Γ) k Γ x) (sym j) ∙ held_more h Γ x nv lo (in_use nv' ns Γ) (nv' - nv) ∙ held_same h Γ x (in_use nv' ns Γ) (in_use nv ns Γ) nv in_use_same

  -- ---- the rules

  module _ {Γ : Environment} {level : ℕ} (N : Neat nv Γ level) where
    followed_same : (p : Place) (v : Variable) → Γ p.root ≡ live v → p.follows ≤ length v.chain → follow (suc nv') Γ p [] ≡ follow (suc nv) Γ p []
    followed_same p v e l = never_short N p v e l (suc nv') (omega arith)

    whole_same : (x : ℕ) (v : Variable) → Γ x ≡ live v → value_whole nv' Γ x v ≡ value_whole nv Γ x v
    unfolding value_whole
    whole_same x v e = ap (λ (k : Met). whole_there Γ k) (followed_same (place x (length v.chain)) v e (omega arith))

    place_same : (i : ℕ) (p : Place) → judge_place nv' Γ i p ≡ judge_place nv Γ i p
    unfolding judge_place
    place_same i p =
        same_steps (in_scope (Γ p.root) (31, i)) (in_scope (Γ p.root) (31, i)) _ _ refl (λ v e.
        same_steps (need (leb p.follows (length v.chain)) (32, i)) (need (leb p.follows (length v.chain)) (32, i)) _ _ refl (λ u n.
        same_steps (reached (follow (suc nv') Γ p []) (33, i)) (reached (follow (suc nv) Γ p []) (33, i)) _ _
        (ap (λ (k : Met). reached k (33, i)) (followed_same p v (scoped _ _ _ e) (leb-true _ _ (needed _ _ _ n)))) (λ ps r. refl)))

    readable_same : (ns : Unfinished) (i : ℕ) (p : Place) → judge_readable nv' ns Γ i p ≡ judge_readable nv ns Γ i p
    unfolding judge_readable
    readable_same ns i p =
        same_steps (judge_place nv' Γ i p) (judge_place nv Γ i p) _ _ (place_same i p) (λ l e.
        same_steps (need (value_whole nv' Γ p.root l.root) (33, i)) (need (value_whole nv Γ p.root l.root) (33, i)) _ _
        (ap (λ (b : Bool). need b (33, i)) (whole_same p.root l.root (led N i p l e).is)) (λ u n.
        same_steps (need _ (34, i)) (need _ (34, i)) _ _ (ap (λ (b : Bool). need (not b) (34, i)) (barred_same ns Γ N.low borrows_exclusive _)) (λ u n. refl)))

    pub copy_same : (ns : Unfinished) (i : ℕ) (p : Place) → judge_copy nv' ns Γ i p ≡ judge_copy nv ns Γ i p
    unfolding judge_copy
    copy_same ns i p = same_steps (judge_readable nv' ns Γ i p) (judge_readable nv ns Γ i p) _ _ (readable_same ns i p) (λ l e. refl)

    pub number_same : (ns : Unfinished) (i : ℕ) (p : Place) → judge_number nv' ns Γ i p ≡ judge_number nv ns Γ i p
    unfolding judge_number
    number_same ns i p = same_steps (judge_readable nv' ns Γ i p) (judge_readable nv ns Γ i p) _ _ (readable_same ns i p) (λ l e. refl)

    pub below_same : (ns : Unfinished) (i : ℕ) (p q : Place) → judge_below nv' ns Γ i p q ≡ judge_below nv ns Γ i p q
    unfolding judge_below
    below_same ns i p q =
        same_steps (judge_number nv' ns Γ i p) (judge_number nv ns Γ i p) _ _ (number_same ns i p) (λ u e.
        same_steps (judge_number nv' ns Γ i q) (judge_number nv ns Γ i q) _ _ (number_same ns i q) (λ u e. refl))

    pub move_same : (ns : Unfinished) (i : ℕ) (p : Place) → judge_move nv' ns Γ i p ≡ judge_move nv ns Γ i p
    unfolding judge_move
    move_same ns i p =
        same_steps (in_scope (Γ p.root) (31, i)) (in_scope (Γ p.root) (31, i)) _ _ refl (λ v e.
        same_steps (need (leb p.follows (length v.chain)) (32, i)) (need (leb p.follows (length v.chain)) (32, i)) _ _ refl (λ u n.
        same_steps (need (leb p.follows (leading_boxes v.chain)) (38, i)) (need (leb p.follows (leading_boxes v.chain)) (38, i)) _ _ refl (λ u n.
        same_steps (need (value_whole nv' Γ p.root v) (33, i)) (need (value_whole nv Γ p.root v) (33, i)) _ _
        (ap (λ (b : Bool). need b (33, i)) (whole_same p.root v (scoped _ _ _ e))) (λ u n.
        same_steps (need (not (write_barred nv' ns Γ p.root)) (35, i)) (need (not (write_barred nv ns Γ p.root)) (35, i)) _ _
        (ap (λ (b : Bool). need (not b) (35, i)) (barred_same ns Γ N.low borrows_any p.root)) (λ u n. refl)))))

    recorded_same : (i : ℕ) (p : Place) (o : Option ℕ) → recorded_places nv' Γ i p o ≡ recorded_places nv Γ i p o
    unfolding recorded_places
    recorded_same i p none = refl
    recorded_same i p (some j) = same_steps (judge_place nv' Γ i (place p.root j)) (judge_place nv Γ i (place p.root j)) _ _ (place_same i (place p.root j)) (λ l e. refl)

    pub shared_same : (ns : Unfinished) (i : ℕ) (p : Place) → judge_shared nv' ns Γ i p ≡ judge_shared nv ns Γ i p
    unfolding judge_shared
    shared_same ns i p =
        same_steps (judge_readable nv' ns Γ i p) (judge_readable nv ns Γ i p) _ _ (readable_same ns i p) (λ l e.
        same_steps (need _ (42, i)) (need _ (42, i)) _ _ refl (λ u n.
        same_steps (recorded_places nv' Γ i p (last_shared (take p.follows l.root.chain))) (recorded_places nv Γ i p (last_shared (take p.follows l.root.chain))) _ _
        (recorded_same i p (last_shared (take p.follows l.root.chain))) (λ ps r. refl)))

    pub exclusive_same : (ns : Unfinished) (i : ℕ) (p : Place) → judge_exclusive nv' ns Γ i p ≡ judge_exclusive nv ns Γ i p
    unfolding judge_exclusive
    exclusive_same ns i p =
        same_steps (judge_place nv' Γ i p) (judge_place nv Γ i p) _ _ (place_same i p) (λ l e.
        same_steps (need (value_whole nv' Γ p.root l.root) (33, i)) (need (value_whole nv Γ p.root l.root) (33, i)) _ _
        (ap (λ (b : Bool). need b (33, i)) (whole_same p.root l.root (led N i p l e).is)) (λ u n.
        same_steps (need (no_shared (take p.follows l.root.chain)) (36, i)) (need (no_shared (take p.follows l.root.chain)) (36, i)) _ _ refl (λ u n.
        same_steps (need (not (write_barred nv' ns Γ p.root)) (35, i)) (need (not (write_barred nv ns Γ p.root)) (35, i)) _ _
        (ap (λ (b : Bool). need (not b) (35, i)) (barred_same ns Γ N.low borrows_any p.root)) (λ u n. refl))))

    write_same : (i : ℕ) (p : Place) (o : Option Ty) → judge_write nv' Γ i p o ≡ judge_write nv Γ i p o
    unfolding judge_write
    write_same i p o = rw (place_same i p) refl

    pub assign_same : (ns : Unfinished) (i : ℕ) (p : Place) (o : Option Ty) → NeatValue Γ level o → judge_assign nv' ns Γ i p o ≡ judge_assign nv ns Γ i p o
    unfolding judge_assign
    assign_same ns i p o V₀ =
        same_steps (judge_write nv' Γ i p o) (judge_write nv Γ i p o) _ _ (write_same i p o) (λ w e.
        same_steps (need (not (write_barred nv' ns w.0 p.root)) (35, i)) (need (not (write_barred nv ns w.0 p.root)) (35, i)) _ _
        (ap (λ (b : Bool). need (not b) (35, i)) (barred_same ns w.0 (neat_write N i p o w V₀ e).neat.low borrows_any p.root)) (λ u n. refl))
