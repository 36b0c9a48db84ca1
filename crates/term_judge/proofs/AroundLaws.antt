-- Terms that stand around one inner term: what comes before it, and what follows it, give the term's answer.
use Prim.Native.Nat.{ℕ, ◌+◌, ◌-◌, ◌≤◌}
use native.Mathlib.Omega.{arith}
use mathlib.Core.Path.{◌≡◌, refl, ◌∙◌, ap, fun_ext}
use mathlib.Core.Logic.{⊎_elim}
use mathlib.Core.Bool.{Bool, true, false}
use mathlib.Core.Option.{Option, none, some}
use mathlib.Core.List.{List, [], ◌∷◌, ◌++◌, append_assoc}
use Rattle.syntax.specs.Result.{ok, err, Refusal, need, ◌>>=◌}
use Rattle.syntax.specs.Script.{Term, box, declare, assign}
use Rattle.syntax.specs.Kinds.{wraps_of}
use Rattle.syntax.specs.RowParts.{field_at}
use Rattle.syntax.specs.RowTrees.{place_at, RowTree, IsTree, around, tree_at}
use Rattle.syntax.proofs.KindBytes.{wrapping}
use Rattle.syntax.proofs.RowTreeLaws.{has_room, box_is, let_number, let_is, assign_root, assign_is, wrapped_inner}
use Rattle.statics.specs.Environment.{used, Environment, Ty, update, is_free}
use Rattle.statics.specs.Uses.{Unfinished, naming, finishing}
use Rattle.statics.specs.Rules.{Judged, judge_box, judge_let, judge_assign}
use Rattle.statics.specs.Judge.{judge}
use Rattle.uses.specs.RowUses.{row_names}
use Rattle.term_judge.specs.JudgeRows.{Ended, at_row, judged_at, judge_at, begin_at, rule_after, after_at}
use Rattle.uses.specs.RowPlaces.{Wraps, AllWrap}
use Rattle.statics.proofs.Finishing.{left_after}
use Rattle.uses.proofs.KindNames.{wrap_one, box_none}
use Rattle.term_judge.proofs.JudgeLaws.{inner_step}

-- What a let asks before its inner term.
pub begin_ok : (b : Bool) (e : Refusal) (Γ Γ₀ : Environment) → (need b e >>= λ _. ok Γ) ≡ ok Γ₀ → (b ≡ true) × (Γ ≡ Γ₀)
unfolding need ◌>>=◌
begin_ok true e Γ Γ₀ h = (refl, cc)
begin_ok false e Γ Γ₀ h = let z : ◌≡◌ {A = ℕ} 0 1 = cc in absurd (omega arith)

begin_err : (b : Bool) (e x : Refusal) (Γ : Environment) → (need b e >>= λ _. ok Γ) ≡ err x → (b ≡ false) × (e ≡ x)
unfolding need ◌>>=◌
begin_err true e x Γ h = let z : ◌≡◌ {A = ℕ} 0 1 = cc in absurd (omega arith)
begin_err false e x Γ h = (refl, cc)

pub ok_is : (Γ Γ₀ : Environment) → ◌≡◌ {A = Judged Environment} (ok Γ) (ok Γ₀) → Γ ≡ Γ₀
ok_is Γ Γ₀ h = cc

declared : (nv level i x : ℕ) (ns : Unfinished) (Γ Γ₀ : Environment) → is_free (Γ x) ≡ true → update Γ x used ≡ Γ₀ → (t : Term) → judge nv (declare i x t) level ns Γ ≡ (judge nv t level ns Γ₀ >>= λ o. judge_let nv level o.0 i x o.1)
unfolding judge need ◌>>=◌
declared nv level i x ns Γ Γ₀ a b t = rw (a, b)

not_declared : (nv level i x : ℕ) (later : ℕ → Unfinished) (Γ : Environment) → is_free (Γ x) ≡ false → (d : RowTree Term) → IsTree d → judge_at nv (around (declare i x) d) level later Γ ≡ err (30, i)
unfolding judged_at judge need ◌>>=◌
not_declared nv level i x later Γ a none h = absurd h
not_declared nv level i x later Γ a (some t) h = rw a

-- The rule that follows, by kind.
module _ (nv level : ℕ) (rows : List ℕ) (i : ℕ) (ns : Unfinished) where
  box_rule : field_at rows i 0 ≡ 7 → rule_after nv level rows i ns ≡ (λ o. judge_box nv o.0 i o.1)
  unfolding rule_after
  box_rule e = fun_ext λ o. rw e

  let_rule : field_at rows i 0 ≡ 8 → rule_after nv level rows i ns ≡ (λ o. judge_let nv level o.0 i (field_at rows i 1) o.1)
  unfolding rule_after
  let_rule e = fun_ext λ o. rw e

  assign_rule : field_at rows i 0 ≡ 9 → rule_after nv level rows i ns ≡ (λ o. judge_assign nv ns o.0 i (place_at rows i 1) o.1)
  unfolding rule_after
  assign_rule e = fun_ext λ o. rw e

-- The answer E, after the inner term's: the state Γ and the value v, before row `next`.
module _ (nv level : ℕ) (rows : List ℕ) (i : ℕ) (later : ℕ → Unfinished) (Γ : Environment) (v : Option Ty) (next : ℕ) (E : Ended) where
  abbrev left : Unfinished
  left = row_names rows i ∷ later next

  after_fine : E ≡ at_row next (rule_after nv level rows i left (Γ, v)) → E ≡ after_at nv level rows i later (ok ((Γ, v), next))
  unfolding ◌>>=◌
  after_fine w = w

  pub after_box : field_at rows i 0 ≡ 7 → E ≡ at_row next (judge_box nv Γ i v) → E ≡ after_at nv level rows i later (ok ((Γ, v), next))
  after_box k w = after_fine (rw (box_rule nv level rows i left k) w)

  pub after_let : field_at rows i 0 ≡ 8 → (x : ℕ) → x ≡ field_at rows i 1 → E ≡ at_row next (judge_let nv level Γ i x v) → E ≡ after_at nv level rows i later (ok ((Γ, v), next))
  after_let k x ex w = after_fine (rw (let_rule nv level rows i left k, ← ex) w)

  pub after_assign : Wraps nv rows i → (field_at rows i 0 ≡ 7 → ⊥) → (field_at rows i 0 ≡ 8 → ⊥) → E ≡ at_row next (judge_assign nv left Γ i (place_at rows i 1) v) → E ≡ after_at nv level rows i later (ok ((Γ, v), next))
  after_assign W a b w = after_fine (rw (assign_rule nv level rows i left (⊎_elim (λ k. absurd (a k)) (λ h. ⊎_elim (λ k. absurd (b k)) (λ k. k) h) (wrapping (field_at rows i 0) W.kind))) w)

-- The last of those around.
pub last_wraps : (nv : ℕ) (rows : List ℕ) (start i : ℕ) → start ≤ i → AllWrap nv rows start (i + 1 - start) → Wraps nv rows i
last_wraps nv rows start i h all =
    let w : start + (i - start) ≡ i = omega arith in
    rw w at (all (i - start) (omega arith))

-- One term.
module _ (nv l : ℕ) (rows : List ℕ) (i : ℕ) (good : IsTree (tree_at nv l rows i)) (wraps : wraps_of (field_at rows i 0) ≡ true) where
  pub wrapped : Wraps nv rows i
  wrapped = record {
    room = has_room nv l rows i good;
    kind = wraps;
    number = λ b. ⊎_elim (λ k. absurd (b k)) (λ h. ⊎_elim (let_number nv l rows i good) (assign_root nv l rows i good) h) (wrapping (field_at rows i 0) wraps);
  }

  inner : IsTree (tree_at nv (l - 1) rows (i + 1))
  inner = wrapped_inner nv l rows i good wraps

  -- A let and an assign name one variable.
  own_name : (field_at rows i 0 ≡ 7 → ⊥) → row_names rows i ≡ field_at rows i 1 ∷ []
  own_name b = wrap_one (field_at rows i 0) (field_at rows i 1) (field_at rows i 3) wraps b

  module _ (level : ℕ) (later : ℕ → Unfinished) (Γ : Environment) where
    -- The inner term is judged with this one among those that have not finished.
    abbrev inside : ℕ → Unfinished
    inside next = row_names rows i ∷ later next

    abbrev Step : Environment → Type 0
    Step Γ₀ = judge_at nv (tree_at nv l rows i) level later Γ ≡ after_at nv level rows i later (judge_at nv (tree_at nv (l - 1) rows (i + 1)) level inside Γ₀)

    -- From what makes the term, and the rule that follows.
    step : (f : Term → Term) → tree_at nv l rows i ≡ around f (tree_at nv (l - 1) rows (i + 1)) → (Γ₀ : Environment)
        → ((t : Term) (j : ℕ) → judge nv (f t) level (finishing (f t) ++ later j) Γ ≡ (judge nv t level (finishing t ++ inside j) Γ₀ >>= rule_after nv level rows i (inside j))) → Step Γ₀
    step f is Γ₀ rule =
        rw is (inner_step f (λ t j. judge nv t level (finishing t ++ inside j) Γ₀) (λ t j. judge nv t level (finishing t ++ later j) Γ) (λ j. rule_after nv level rows i (inside j)) rule (tree_at nv (l - 1) rows (i + 1)) inner)

    pub wrapped_fine : (Γ₀ : Environment) → begin_at rows i Γ ≡ ok Γ₀ → Step Γ₀
    unfolding judge finishing begin_at
    wrapped_fine Γ₀ e = ⊎_elim boxed (λ h. ⊎_elim bound assigned h) (wrapping (field_at rows i 0) wraps)
      where
        boxed : field_at rows i 0 ≡ 7 → Step Γ₀
        boxed k =
            let same = ok_is Γ Γ₀ (rw k at e) in
            step (box i) (box_is nv l rows i good k) Γ₀ (λ t j. rw (box_rule nv level rows i (inside j) k, box_none (field_at rows i 0) (field_at rows i 1) (field_at rows i 3) k, ← same, append_assoc (finishing t) (naming []) (later j)))

        bound : field_at rows i 0 ≡ 8 → Step Γ₀
        bound k =
            let x = field_at rows i 1 in
            let z = begin_ok (is_free (Γ x)) (30, i) (update Γ x used) Γ₀ (rw k at e) in
            step (declare i x) (let_is nv l rows i good k) Γ₀
            (λ t j. declared nv level i x (finishing (declare i x t) ++ later j) Γ Γ₀ z.0 z.1 t ∙ rw (let_rule nv level rows i (inside j) k, own_name (λ q. absurd (omega (arith, k, q))), append_assoc (finishing t) (naming (x ∷ [])) (later j)))

        assigned : field_at rows i 0 ≡ 9 → Step Γ₀
        assigned k =
            let same = ok_is Γ Γ₀ (rw k at e) in
            let p = place_at rows i 1 in
            step (assign i p) (assign_is nv l rows i good k) Γ₀
            (λ t j.
            let left : Unfinished = (p.root ∷ []) ∷ later j in
            rw (assign_rule nv level rows i (inside j) k, own_name (λ q. absurd (omega (arith, k, q))), ← same, append_assoc (finishing t) (naming (p.root ∷ [])) (later j), left_after t (finishing t ++ left) left refl))

    pub wrapped_refused : (x : Refusal) → begin_at rows i Γ ≡ err x → judge_at nv (tree_at nv l rows i) level later Γ ≡ err x
    unfolding begin_at
    wrapped_refused x e = ⊎_elim (λ k. absurd (other (rw k at e))) (λ h. ⊎_elim taken (λ k. absurd (other (rw k at e))) h) (wrapping (field_at rows i 0) wraps)
      where
        other : ◌≡◌ {A = Judged Environment} (ok Γ) (err x) → ⊥
        other h = let z : ◌≡◌ {A = ℕ} 0 1 = cc in absurd (omega arith)

        taken : field_at rows i 0 ≡ 8 → judge_at nv (tree_at nv l rows i) level later Γ ≡ err x
        taken k =
            let y = field_at rows i 1 in
            let z = begin_err (is_free (Γ y)) (30, i) x (update Γ y used) (rw k at e) in
            rw (let_is nv l rows i good k) (not_declared nv level i y later Γ z.0 (tree_at nv (l - 1) rows (i + 1)) inner ∙ ap (λ (x : Refusal). err x) z.1)
