-- A choice (LANGUAGE 3.31): what the second block is judged from stands for the state before, and what is known after either block for what
-- is so after the one that ran.
use Prim.Native.Nat.{ℕ, ◌≤◌}
use native.Mathlib.Omega.{arith}
use mathlib.Core.Path.{◌≡◌, refl, sym, ap, ◌∙◌, subst}
use mathlib.Core.Bool.{Bool, true, false, false≢true}
use mathlib.Core.Option.{Option, none, some}
use lib.Dec.{leb}
use borrow.Author.Tests.{leb-true, leb-false}
use Rattle.syntax.specs.Result.{pick}
use Rattle.syntax.specs.Script.{Place}
use Rattle.statics.specs.Links.{leading_boxes}
use Rattle.statics.specs.Places.{unite}
use Rattle.statics.specs.Environment.{places, borrow_end, Variable, Slot, free, used, live, Environment, Ty, fresh, borrow_of}
use Rattle.statics.specs.Uses.{Unfinished}
use Rattle.statics.specs.Choice.{carried_slot, carried, moved_from_of, earlier, joined_slot, joined, agreeing, either}
use Rattle.statics.specs.Neat.{Among}
use Rattle.statics.proofs.Slots.{free≢live, used≢live, carried_live, live_carried, joined_live}
use Rattle.statics.proofs.LinkChains.{same_links_law}
use Rattle.statics.proofs.SetLaws.{unite_left, unite_right}
use Rattle.statics.proofs.NeatSteps.{Lives, Lived}
use Rattle.dynamics.specs.Values.{empty}
use Rattle.dynamics.specs.Store.{State, Ran}
use Rattle.dynamics.specs.Run.{Outcome}
use Rattle.statics.proofs.NeatBlocks.{joined_used}
use Rattle.safety.proofs.Covering.{covered_live, live_covers}
use Rattle.safety.proofs.Widening.{Wide, wide_same, wide_end, covered_wide}
use Rattle.safety.proofs.Invariant.{Invariant}
use Rattle.safety.proofs.Progress.{Progress}
use Rattle.safety.proofs.Wider.{Wider, WiderValue, value_same, wider_invariant, widened}

-- ---- the numbers that the first block takes

pub carrying : {nv : ℕ} {ns : Unfinished} {Γ : Environment} {lv : ℕ} {s : State} (Γ₁ : Environment) → Invariant nv ns Γ none lv s empty → Invariant nv ns (carried Γ Γ₁) none lv s empty
unfolding carried
carrying {nv} {ns} {Γ} {lv} {s} Γ₁ I = wider_invariant {M = λ x. carried_slot (Γ x) (Γ₁ x)} I
    (record { up = λ x v e. (v, carried_live (Γ x) (Γ₁ x) v e, wide_same v); down = λ x v e. (v, live_carried (Γ x) (Γ₁ x) v e) })
    (value_same none lv)

-- ---- the environment after either block

earlier_left : (a b : ℕ) → earlier a b ≤ a
unfolding earlier
earlier_left a b = go (leb a b) refl
  where
    go : (c : Bool) → leb a b ≡ c → pick c a b ≤ a
    go true e = omega arith
    go false e = let z = leb-false a b e in omega arith

earlier_right : (a b : ℕ) → earlier a b ≤ b
unfolding earlier
earlier_right a b = go (leb a b) refl
  where
    go : (c : Bool) → leb a b ≡ c → pick c a b ≤ b
    go true e = leb-true a b e
    go false e = omega arith

-- What is moved away after one of the blocks counts as moved away after the choice (LANGUAGE 3.31).
joined_moved : (a b c : Slot) (v : Variable) → joined_slot a b c ≡ live v → (v.moved_from ≤ moved_from_of b) × (v.moved_from ≤ moved_from_of c)
joined_moved free b c v e = absurd (free≢live (joined_live free b c v e).1)
joined_moved used b c v e = absurd (used≢live e)
joined_moved (live k) b c v e =
    let z : record { chain = k.chain; moved_from = earlier (moved_from_of b) (moved_from_of c); borrow = borrow_end k.chain (unite (places (borrow_of b)) (places (borrow_of c))); level = k.level } ≡ v = cc in
    subst (λ (y : Variable). (y.moved_from ≤ moved_from_of b) × (y.moved_from ≤ moved_from_of c)) z (earlier_left (moved_from_of b) (moved_from_of c), earlier_right (moved_from_of b) (moved_from_of c))

live_joined : (a b c : Slot) (k : Variable) → a ≡ live k → (v : Variable) × (joined_slot a b c ≡ live v)
live_joined a b c k e =
    (record { chain = k.chain; moved_from = earlier (moved_from_of b) (moved_from_of c); borrow = borrow_end k.chain (unite (places (borrow_of b)) (places (borrow_of c))); level = k.level }, ap (λ (y : Slot). joined_slot y b c) e)

module _ (Γ Γ₁ Γ₂ : Environment) where
  -- Δ is the state after the block that ran.
  after_wider : (Δ : Environment) → Lives Γ Δ → Lived Γ Δ → ((x : ℕ) (v : Variable) → joined_slot (Γ x) (Γ₁ x) (Γ₂ x) ≡ live v → v.moved_from ≤ moved_from_of (Δ x))
      → ((x : ℕ) (p : Place) → Among p (places (borrow_of (Δ x))) → Among p (unite (places (borrow_of (Γ₁ x))) (places (borrow_of (Γ₂ x))))) → Wider Δ (joined Γ Γ₁ Γ₂)
  unfolding joined borrow_of
  after_wider Δ li al moved among = record {
    up = λ x v e.
        let m = joined_live (Γ x) (Γ₁ x) (Γ₂ x) v e in
        let q = li x m.0 m.1 in (
          q.0,
          q.1,
          wide_end q.0 v (unite (places (borrow_of (Γ₁ x))) (places (borrow_of (Γ₂ x)))) (q.2 ∙ m.2) (q.3 ∙ m.3)
              (subst (λ (y : Slot). v.moved_from ≤ moved_from_of y) q.1 (moved x v e)) m.4
              (λ p i. among x p (subst (λ (y : Slot). Among p (places (borrow_of y))) (sym q.1) i)),
        );
    down = λ x q e. let k = al x q e in live_joined (Γ x) (Γ₁ x) (Γ₂ x) k.0 k.1;
  }

  first_wider : Lives Γ Γ₁ → Lived Γ Γ₁ → Wider Γ₁ (joined Γ Γ₁ Γ₂)
  first_wider li al =
      after_wider Γ₁ li al (λ x v e. (joined_moved (Γ x) (Γ₁ x) (Γ₂ x) v e).0) (λ x p i. unite_left p (places (borrow_of (Γ₁ x))) (places (borrow_of (Γ₂ x))) i)

  second_wider : Lives Γ Γ₂ → Lived Γ Γ₂ → Wider Γ₂ (joined Γ Γ₁ Γ₂)
  second_wider li al =
      after_wider Γ₂ li al (λ x v e. (joined_moved (Γ x) (Γ₁ x) (Γ₂ x) v e).1) (λ x p i. unite_right p (places (borrow_of (Γ₁ x))) (places (borrow_of (Γ₂ x))) i)

-- ---- the value of either block

value_wider : (t u : Ty) (lv : ℕ) → Wide (fresh t.links t.borrow lv) (fresh u.links u.borrow lv) → WiderValue (some t) (some u) lv
value_wider t u lv w = record {
  row = λ v. refl;
  flight = λ g f c.
      let C = covered_live g (live (fresh t.links t.borrow lv)) (fresh t.links t.borrow lv) c refl in
      live_covers g (live (fresh u.links u.borrow lv)) C.0 (fresh u.links u.borrow lv) C.1 refl (covered_wide C.2 w (f C.0 C.1) (omega arith));
  no_value = λ e. absurd (let z : ◌≡◌ {A = ℕ} 0 1 = cc in omega arith);
}

either_value : (o₁ o₂ : Option Ty) (lv : ℕ) → agreeing o₁ o₂ ≡ true → (WiderValue o₁ (either o₁ o₂) lv) × (WiderValue o₂ (either o₁ o₂) lv)
unfolding agreeing
either_value none none lv h = (value_same none lv, value_same none lv)
either_value none (some u) lv h = absurd (false≢true h)
either_value (some t) none lv h = absurd (false≢true h)
either_value (some t) (some u) lv h =
    let e = same_links_law t.links u.links h in
    let b = unite (places t.borrow) (places u.borrow) in
    let m : Ty = record { links = t.links; borrow = borrow_end t.links b } in
    let z : leading_boxes u.links ≡ leading_boxes t.links = ap leading_boxes (sym e) in (
      value_wider t m lv (wide_end (fresh t.links t.borrow lv) (fresh t.links (borrow_end t.links b) lv) b refl refl (omega arith) refl (λ p i. unite_left p (places t.borrow) (places u.borrow) i)),
      value_wider u m lv (wide_end (fresh u.links u.borrow lv) (fresh t.links (borrow_end t.links b) lv) b (sym e) refl (omega arith) refl (λ p i. unite_right p (places t.borrow) (places u.borrow) i)),
    )

-- ---- after the block that ran

module _ {nv : ℕ} {ns : Unfinished} {Γ : Environment} {lv : ℕ} {r : Ran Outcome} where
  pub after_first : {Γ₁ : Environment} {o₁ : Option Ty} (Γ₂ : Environment) (o₂ : Option Ty) → Progress nv ns Γ Γ₁ o₁ lv r → Lived Γ Γ₁ → agreeing o₁ o₂ ≡ true
      → Progress nv ns Γ (joined Γ Γ₁ Γ₂) (either o₁ o₂) lv r
  after_first {Γ₁} {o₁} Γ₂ o₂ R al agree = widened R (first_wider Γ Γ₁ Γ₂ R.lives al) (either_value o₁ o₂ lv agree).0 (joined_used Γ Γ₁ Γ₂)

  -- The second block began with numbers taken that were free before the choice: no variable came into scope or left it by that.
  pub after_second : {Γ₂ : Environment} {o₂ : Option Ty} (Γ₁ : Environment) (o₁ : Option Ty) → Progress nv ns (carried Γ Γ₁) Γ₂ o₂ lv r → Lived (carried Γ Γ₁) Γ₂ → agreeing o₁ o₂ ≡ true
      → Progress nv ns Γ (joined Γ Γ₁ Γ₂) (either o₁ o₂) lv r
  unfolding carried
  after_second {Γ₂} {o₂} Γ₁ o₁ R al agree =
      widened (record {
        s = R.s;
        v = R.v;
        ran = R.ran;
        inv = R.inv;
        keep = λ x q e l. let k = R.keep x q e l in (k.0, carried_live (Γ x) (Γ₁ x) k.0 k.1, k.2);
        stay = λ x e. R.stay x (ap (λ (y : Slot). carried_slot y (Γ₁ x)) e);
        lives = lives;
      })
      (second_wider Γ Γ₁ Γ₂ lives (λ x q e. let k = al x q e in (k.0, carried_live (Γ x) (Γ₁ x) k.0 k.1, k.2)))
      (either_value o₁ o₂ lv agree).1 (joined_used Γ Γ₁ Γ₂)
    where
      lives : Lives Γ Γ₂
      lives x k e = R.lives x k (live_carried (Γ x) (Γ₁ x) k e)
