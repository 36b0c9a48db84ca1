-- The end of a block, and a choice, leave a neat state and value.
use Prim.Native.Nat.{ℕ, suc, ◌≤◌}
use native.Mathlib.Omega.{arith}
use mathlib.Core.Path.{◌≡◌, refl, sym, ap, subst}
use mathlib.Core.Logic.{inl, inr}
use mathlib.Core.Bool.{true, false≢true}
use mathlib.Core.Option.{Option, none, some}
use mathlib.Core.List.{List}
use lib.Dec.{leb}
use borrow.Author.Tests.{leb-true}
use Rattle.syntax.specs.Result.{ok, need}
use Rattle.syntax.specs.Script.{Place}
use Rattle.statics.specs.Links.{Link}
use Rattle.statics.specs.Places.{unite}
use Rattle.statics.specs.Environment.{Borrow, places, borrow_end, Variable, Slot, used, live, Environment, Ty, level_of, borrow_of, lives_at, leave}
use Rattle.statics.specs.Choice.{carried, moved_from_of, earlier, joined_slot, joined, agreeing, either}
use Rattle.statics.specs.Rules.{Out, borrow_in, judge_block_end, judge_choice}
use Rattle.statics.specs.Neat.{Among, Ordered, Recorded, Holds, Neat, NeatValue}
use Rattle.syntax.proofs.Answers.{then, needed}
use Rattle.statics.proofs.Slots.{leave_live, leave_keeps, leave_used, carried_live, live_carried, joined_live}
use Rattle.statics.proofs.LinkChains.{same_links_law}
use Rattle.statics.proofs.SetLaws.{unite_out, every_in}
use Rattle.statics.proofs.SetOrder.{unite_ordered}
use Rattle.statics.proofs.NeatSteps.{Lives, Lived, Back, Fine, recorded_back, holds_set, no_value, some_value, neat_step, fine_step}

-- ---- the end of a block

recorded_leave : {Γ : Environment} {ks : List Link} {l m : ℕ} {p : Place} (level : ℕ) (R : Recorded Γ ks l p) → R.variable.level ≤ level → R.variable.level ≤ m
    → Recorded (leave level Γ) ks m p
unfolding leave
recorded_leave {Γ} {ks} {l} {m} {p} level R h k =
    record { variable = R.variable; is = leave_keeps level (Γ p.root) R.variable R.is h; around = k; long = R.long; rest = R.rest }

neat_leave : {nv : ℕ} {Γ : Environment} (level : ℕ) → Neat nv Γ (suc level) → Neat nv (leave level Γ) level
unfolding leave
neat_leave {nv} {Γ} level N = record {
  low = λ x v e. N.low x v (leave_live level (Γ x) v e).0;
  deep = λ x v e. (leave_live level (Γ x) v e).1;
  holds = λ x v e.
      let a = leave_live level (Γ x) v e in
      let H = N.holds x v a.0 in
      record { recorded = λ p i. let R = H.recorded p i in recorded_leave level R (let z = R.around in omega (arith, a.1)) R.around; ordered = H.ordered; end = H.end };
}

value_leave : (nv : ℕ) {Γ : Environment} (level : ℕ) (o : Option Ty) → NeatValue Γ (suc level) o → lives_at Γ (borrow_in nv o) level ≡ true → NeatValue (leave level Γ) level o
unfolding lives_at level_of
value_leave nv {Γ} level none V₀ h = no_value (leave level Γ) level
value_leave nv {Γ} level (some t) V₀ h = some_value (leave level Γ) level t (
    let H = V₀ t refl in
    record {
      recorded = λ p i.
          let R = H.recorded p i in
          let b = every_in (λ (w : Place). leb (level_of (Γ w.root)) level) p (places t.borrow) h i in
          let c = leb-true R.variable.level level (subst (λ (y : Slot). leb (level_of y) level ≡ true) R.is b) in
          recorded_leave level R c c;
      ordered = H.ordered;
      end = H.end;
    })

pub neat_block_end : {nv : ℕ} {Γ Γ' : Environment} {o : Option Ty} (level i : ℕ) (out : Out) → Neat nv Γ level → Fine nv Γ Γ' o (suc level) → judge_block_end nv level Γ' i o ≡ ok out
    → (Fine nv Γ out.0 out.1 level) × (Lived Γ out.0)
unfolding judge_block_end leave
neat_block_end {nv} {Γ} {Γ'} {o} level i out N F h =
    let b = then (need (lives_at Γ' (borrow_in nv o) level) (40, i)) _ out h in
    let K : Lived Γ (leave level Γ') = λ x q e. let l = leave_live level (Γ' x) q e in F.old x q l.0 (omega (arith, l.1)) in
    let z : (leave level Γ', o) ≡ out = let k = b.2 in cc in
    subst (λ (q : Out). (Fine nv Γ q.0 q.1 level) × (Lived Γ q.0)) z (
      record {
        neat = neat_leave level F.neat;
        value = value_leave nv level o F.value (needed _ _ _ b.1);
        old = λ x q e l. K x q e;
        taken = λ x e. leave_used level (Γ' x) (F.taken x e);
        lives = λ x k e. let q = F.lives x k e in let d = N.deep x k e in (q.0, leave_keeps level (Γ' x) q.0 q.1 (omega (arith, q.3)), q.2, q.3);
      },
      K,
    )

-- Inside a block nothing is deeper either.
pub neat_enter : {nv : ℕ} {Γ : Environment} {level : ℕ} → Neat nv Γ level → Neat nv Γ (suc level)
neat_enter N = record { low = N.low; deep = λ x v e. (let z = N.deep x v e in omega arith); holds = N.holds }

-- ---- a choice

pub neat_carried : {nv : ℕ} {Γ : Environment} {level : ℕ} (Γ₁ : Environment) → Neat nv Γ level → Neat nv (carried Γ Γ₁) level
unfolding carried
neat_carried {nv} {Γ} {level} Γ₁ N = neat_step N (λ x k e. (k, live_carried (Γ x) (Γ₁ x) k e, refl, refl)) (λ x v e. let c = carried_live (Γ x) (Γ₁ x) v e in (v, c, refl, N.holds x v c))

pub joined_used : (Γ Γ₁ Γ₂ : Environment) (x : ℕ) → Γ x ≡ used → joined Γ Γ₁ Γ₂ x ≡ used
unfolding joined
joined_used Γ Γ₁ Γ₂ x e = ap (λ (y : Slot). joined_slot y (Γ₁ x) (Γ₂ x)) e

module _ {nv : ℕ} {Γ Γ₁ Γ₂ : Environment} {level : ℕ} (N : Neat nv Γ level) (N₁ : Neat nv Γ₁ level) (N₂ : Neat nv Γ₂ level)
    (l₁ : Lives Γ Γ₁) (l₂ : Lives Γ Γ₂) (a₁ : Lived Γ Γ₁) (a₂ : Lived Γ Γ₂) where
  joined_lives : Lives Γ (joined Γ Γ₁ Γ₂)
  unfolding joined
  joined_lives x k e = (record { chain = k.chain; moved_from = earlier (moved_from_of (Γ₁ x)) (moved_from_of (Γ₂ x)); borrow = borrow_end k.chain (unite (places (borrow_of (Γ₁ x))) (places (borrow_of (Γ₂ x)))); level = k.level }, ap (λ (y : Slot). joined_slot y (Γ₁ x) (Γ₂ x)) e, refl, refl)

  -- What a variable holds after one of the blocks.
  after_one : (Γ' : Environment) → Neat nv Γ' level → Lives Γ Γ' → Lived Γ Γ' → (x : ℕ) (k : Variable) → Γ x ≡ live k
      → ((p : Place) → Among p (places (borrow_of (Γ' x))) → Recorded Γ k.chain k.level p) × (Ordered (places (borrow_of (Γ' x))))
  unfolding borrow_of
  after_one Γ' N' li al x k e =
      let q = li x k e in
      let H = N'.holds x q.0 q.1 in
      let H' : Holds Γ' k.chain k.level q.0.borrow = subst (λ (y : ℕ). Holds Γ' k.chain y q.0.borrow) q.3 (subst (λ (y : List Link). Holds Γ' y q.0.level q.0.borrow) q.2 H) in (
        λ p i. recorded_back li al (H'.recorded p (subst (λ (y : Slot). Among p (places (borrow_of y))) q.1 i)),
        subst (λ (y : Slot). Ordered (places (borrow_of y))) (sym q.1) H.ordered,
      )

  joined_back : Back Γ (joined Γ Γ₁ Γ₂)
  unfolding joined
  joined_back x v e =
      let m = joined_live (Γ x) (Γ₁ x) (Γ₂ x) v e in
      let A = after_one Γ₁ N₁ l₁ a₁ x m.0 m.1 in
      let B = after_one Γ₂ N₂ l₂ a₂ x m.0 m.1 in
      let b = unite (places (borrow_of (Γ₁ x))) (places (borrow_of (Γ₂ x))) in
      let H : Holds Γ m.0.chain m.0.level (borrow_end m.0.chain b) = holds_set m.0.chain b (λ p i. elim (unite_out p (places (borrow_of (Γ₁ x))) (places (borrow_of (Γ₂ x))) i) [ inl j ↦ A.0 p j | inr j ↦ B.0 p j ])
      (unite_ordered (places (borrow_of (Γ₁ x))) (places (borrow_of (Γ₂ x))) B.1) in (
        m.0,
        m.1,
        m.3,
        subst (λ (y : Borrow). Holds Γ v.chain v.level y) (sym m.4)
            (subst (λ (y : ℕ). Holds Γ v.chain y (borrow_end v.chain b)) m.3 (subst (λ (y : List Link). Holds Γ y m.0.level (borrow_end y b)) m.2 H)),
      )

  either_value : (o₁ o₂ : Option Ty) → NeatValue Γ₁ level o₁ → NeatValue Γ₂ level o₂ → agreeing o₁ o₂ ≡ true → NeatValue Γ level (either o₁ o₂)
  unfolding agreeing
  either_value none none V₁ V₂ h = no_value Γ level
  either_value none (some u) V₁ V₂ h = absurd (false≢true h)
  either_value (some t) none V₁ V₂ h = absurd (false≢true h)
  either_value (some t) (some u) V₁ V₂ h =
      let e = same_links_law t.links u.links h in
      let b = unite (places t.borrow) (places u.borrow) in
      some_value Γ level (record { links = t.links; borrow = borrow_end t.links b }) (holds_set t.links b
      (λ p i. elim (unite_out p (places t.borrow) (places u.borrow) i) [
        | inl j ↦ recorded_back l₁ a₁ ((V₁ t refl).recorded p j)
        | inr j ↦ recorded_back l₂ a₂ (subst (λ (y : List Link). Recorded Γ₂ y level p) (sym e) ((V₂ u refl).recorded p j))
      ])
      (unite_ordered (places t.borrow) (places u.borrow) (V₂ u refl).ordered))

  pub neat_choice : (i : ℕ) (o₁ o₂ : Option Ty) (out : Out) → NeatValue Γ₁ level o₁ → NeatValue Γ₂ level o₂ → judge_choice nv Γ i (Γ₁, o₁) (Γ₂, o₂) ≡ ok out
      → Fine nv Γ out.0 out.1 level
  unfolding judge_choice
  neat_choice i o₁ o₂ out V₁ V₂ h =
      let a = then (need (agreeing o₁ o₂) (39, i)) _ out h in
      let z : (joined Γ Γ₁ Γ₂, either o₁ o₂) ≡ out = let k = a.2 in cc in
      subst (λ (q : Out). Fine nv Γ q.0 q.1 level) z (fine_step N joined_lives joined_back (joined_used Γ Γ₁ Γ₂) (either_value o₁ o₂ V₁ V₂ (needed _ _ _ a.1)))
