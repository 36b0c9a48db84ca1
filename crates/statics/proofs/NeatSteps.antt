-- Neat states: what is recorded stays so in steps that keep what is in scope.
use Prim.Native.Nat.{ℕ, ◌≤◌, ◌<◌}
use native.Mathlib.Omega.{arith}
use native.Mathlib.Decide.{ℕ_discrete}
use mathlib.Core.Path.{◌≡◌, refl, sym, ap, ◌∙◌, subst}
use mathlib.Core.Option.{Option, none, some}
use mathlib.Core.List.{List, [], ◌∷◌}
use lib.ListN.{length, drop}
use Rattle.syntax.specs.Script.{Place}
use Rattle.statics.specs.Links.{Link, boxed, leading_boxes}
use Rattle.statics.specs.Environment.{Borrow, no_borrow, places, borrow_end, Variable, free, used, live, Environment, Ty, update}
use Rattle.statics.specs.Rules.{number_ty}
use Rattle.statics.specs.Neat.{Among, Ordered, behind, Recorded, Holds, Neat, NeatValue}
use Rattle.statics.proofs.Answers.{none≢some}
use Rattle.statics.proofs.Slots.{free≢live, used≢live, update_same, update_other}
use Rattle.statics.proofs.LinkChains.{same_behind, same_end}
use Rattle.statics.proofs.SetLaws.{end_out}
use Rattle.statics.proofs.SetOrder.{end_ordered, end_again}

-- What is in scope stays so, with its links and level.
abbrev pub Lives : Environment → Environment → Type 0
Lives Γ Γ' = (x : ℕ) (k : Variable) → Γ x ≡ live k → (q : Variable) × (Γ' x ≡ live q) × (q.chain ≡ k.chain) × (q.level ≡ k.level)

-- What is in scope afterwards was so before, with the same level.
abbrev pub Lived : Environment → Environment → Type 0
Lived Γ Γ' = (x : ℕ) (q : Variable) → Γ' x ≡ live q → (k : Variable) × (Γ x ≡ live k) × (k.level ≡ q.level)

-- What an accepted term leaves: a neat state and value; what is new in scope is of this level; what is taken and not in scope stays so.
pub record Fine (nv : ℕ) (Γ Γ' : Environment) (o : Option Ty) (level : ℕ) : Type 0 where
  pub neat : Neat nv Γ' level
  pub value : NeatValue Γ' level o
  pub old : (x : ℕ) (q : Variable) → Γ' x ≡ live q → q.level < level → (k : Variable) × (Γ x ≡ live k) × (k.level ≡ q.level)
  pub taken : (x : ℕ) → Γ x ≡ used → Γ' x ≡ used
  pub lives : Lives Γ Γ'

-- ---- what is recorded

recorded_in : {Γ Γ' : Environment} {ks : List Link} {l : ℕ} {p : Place} → Lives Γ Γ' → Recorded Γ ks l p → Recorded Γ' ks l p
recorded_in {Γ} {Γ'} {ks} {l} {p} li R =
    let q = li p.root R.variable R.is in
    record {
      variable = q.0;
      is = q.1;
      around = subst (λ (k : ℕ). k ≤ l) (sym q.3) R.around;
      long = subst (λ (k : List Link). p.follows ≤ length k) (sym q.2) R.long;
      rest = ap (λ (k : List Link). drop p.follows k) q.2 ∙ R.rest;
    }

pub holds_in : {Γ Γ' : Environment} {ks : List Link} {l : ℕ} {b : Borrow} → Lives Γ Γ' → Holds Γ ks l b → Holds Γ' ks l b
holds_in li H = record { recorded = λ p i. recorded_in li (H.recorded p i); ordered = H.ordered; end = H.end }

-- Back again, where nothing has come into scope.
pub recorded_back : {Γ Γ' : Environment} {ks : List Link} {l : ℕ} {p : Place} → Lives Γ Γ' → Lived Γ Γ' → Recorded Γ' ks l p → Recorded Γ ks l p
recorded_back {Γ} {Γ'} {ks} {l} {p} li al R =
    let k = al p.root R.variable R.is in
    let q = li p.root k.0 k.1 in
    let z : q.0 ≡ R.variable = (let a : live q.0 ≡ live R.variable = sym q.1 ∙ R.is in cc) in
    let c : R.variable.chain ≡ k.0.chain = ap (λ (y : Variable). y.chain) (sym z) ∙ q.2 in
    record {
      variable = k.0;
      is = k.1;
      around = subst (λ (y : ℕ). y ≤ l) (sym k.2) R.around;
      long = subst (λ (y : List Link). p.follows ≤ length y) c R.long;
      rest = ap (λ (y : List Link). drop p.follows y) (sym c) ∙ R.rest;
    }

-- By something with the same links behind its borrow link, no further out.
pub recorded_as : {Γ : Environment} {ks js : List Link} {l m : ℕ} {p : Place} → behind ks ≡ behind js → l ≤ m → Recorded Γ ks l p → Recorded Γ js m p
recorded_as {Γ} {ks} {js} {l} {m} e h R = record { variable = R.variable; is = R.is; around = (let z = R.around in omega arith); long = R.long; rest = R.rest ∙ e }

holds_none : (Γ : Environment) (l : ℕ) → Holds Γ [] l no_borrow
unfolding borrow_end
holds_none Γ l = record { recorded = λ p i. absurd i; ordered = tt; end = refl }

pub holds_level : {Γ : Environment} {ks : List Link} {l m : ℕ} {b : Borrow} → l ≤ m → Holds Γ ks l b → Holds Γ ks m b
holds_level h H = record { recorded = λ p i. recorded_as refl h (H.recorded p i); ordered = H.ordered; end = H.end }

pub holds_box : {Γ : Environment} {ks : List Link} {l : ℕ} {b : Borrow} → Holds Γ ks l b → Holds Γ (boxed ∷ ks) l b
unfolding borrow_end leading_boxes
holds_box H = record { recorded = λ p i. recorded_as refl (omega arith) (H.recorded p i); ordered = H.ordered; end = H.end }

-- After some of the leading boxes, and before them.
pub holds_drop : {Γ : Environment} {ks : List Link} {l : ℕ} {b : Borrow} (d : ℕ) → d ≤ leading_boxes ks → Holds Γ ks l b → Holds Γ (drop d ks) l b
holds_drop {Γ} {ks} {l} {b} d h H = record {
  recorded = λ p i. recorded_as (sym (same_behind d ks h)) (omega arith) (H.recorded p i);
  ordered = H.ordered;
  end = H.end ∙ sym (same_end d ks (places b) h);
}

pub holds_undrop : {Γ : Environment} (ks : List Link) {l : ℕ} {b : Borrow} (d : ℕ) → d ≤ leading_boxes ks → Holds Γ (drop d ks) l b → Holds Γ ks l b
holds_undrop {Γ} ks {l} {b} d h H = record {
  recorded = λ p i. recorded_as (same_behind d ks h) (omega arith) (H.recorded p i);
  ordered = H.ordered;
  end = H.end ∙ same_end d ks (places b) h;
}

-- A borrow end made from recorded places in order.
pub holds_set : {Γ : Environment} (ks : List Link) {l : ℕ} (ps : List Place) → ((p : Place) → Among p ps → Recorded Γ ks l p) → Ordered ps → Holds Γ ks l (borrow_end ks ps)
holds_set ks ps h o = record { recorded = λ p i. h p (end_out ks ps p i); ordered = end_ordered ks ps o; end = end_again ks ps }

-- ---- values

pub no_value : (Γ : Environment) (l : ℕ) → NeatValue Γ l none
no_value Γ l t e = absurd (none≢some e)

pub some_value : (Γ : Environment) (l : ℕ) (t : Ty) → Holds Γ t.links l t.borrow → NeatValue Γ l (some t)
some_value Γ l t h u e = let z : t ≡ u = cc in subst (λ (k : Ty). Holds Γ k.links l k.borrow) z h

pub number_value : (Γ : Environment) (l : ℕ) → NeatValue Γ l (some number_ty)
number_value Γ l = some_value Γ l number_ty (holds_none Γ l)

-- ---- steps

lives_same : (Γ : Environment) → Lives Γ Γ
lives_same Γ x k e = (k, e, refl, refl)

pub same_state : {nv : ℕ} {Γ : Environment} {o : Option Ty} {l : ℕ} → Neat nv Γ l → NeatValue Γ l o → Fine nv Γ Γ o l
same_state {nv} {Γ} N h = record { neat = N; value = h; old = λ x q e i. (q, e, refl); taken = λ x e. e; lives = lives_same Γ }

-- Each variable afterwards was in scope before, and its borrow end is recorded before.
abbrev pub Back : Environment → Environment → Type 0
Back Γ Γ' = (x : ℕ) (v : Variable) → Γ' x ≡ live v → (e : Variable) × (Γ x ≡ live e) × (e.level ≡ v.level) × (Holds Γ v.chain v.level v.borrow)

pub neat_step : {nv : ℕ} {Γ Γ' : Environment} {l : ℕ} → Neat nv Γ l → Lives Γ Γ' → Back Γ Γ' → Neat nv Γ' l
neat_step {nv} {Γ} {Γ'} {l} N li ba = record {
  low = λ x v e. let b = ba x v e in N.low x b.0 b.1;
  deep = λ x v e. let b = ba x v e in subst (λ (k : ℕ). k ≤ l) b.2 (N.deep x b.0 b.1);
  holds = λ x v e. holds_in li (ba x v e).3;
}

pub fine_step : {nv : ℕ} {Γ Γ' : Environment} {o : Option Ty} {l : ℕ} → Neat nv Γ l → Lives Γ Γ' → Back Γ Γ' → ((x : ℕ) → Γ x ≡ used → Γ' x ≡ used)
    → NeatValue Γ l o → Fine nv Γ Γ' o l
fine_step N li ba st h = record {
  neat = neat_step N li ba;
  value = λ t e. holds_in li (h t e);
  old = λ x q e i. let b = ba x q e in (b.0, b.1, b.2);
  taken = st;
  lives = li;
}

pub fine_then : {nv : ℕ} {Γ Γ₁ Γ₂ : Environment} {o₁ o₂ : Option Ty} {l : ℕ} → Fine nv Γ Γ₁ o₁ l → Fine nv Γ₁ Γ₂ o₂ l → Fine nv Γ Γ₂ o₂ l
fine_then F G = record {
  neat = G.neat;
  value = G.value;
  old = λ x q e i. let a = G.old x q e i in let b = F.old x a.0 a.1 (omega (arith, a.2)) in (b.0, b.1, b.2 ∙ a.2);
  taken = λ x e. G.taken x (F.taken x e);
  lives = λ x k e. let a = F.lives x k e in let b = G.lives x a.0 a.1 in (b.0, b.1, b.2 ∙ a.2, b.3 ∙ a.3);
}

-- A number is taken.
pub neat_take : {nv : ℕ} {Γ : Environment} {l : ℕ} (x : ℕ) → Γ x ≡ free → Neat nv Γ l → Neat nv (update Γ x used) l
neat_take {nv} {Γ} {l} x f N = neat_step N
    (λ y k e. (k, update_other Γ x used y (λ q. free≢live (sym f ∙ ap Γ (sym q) ∙ e)) ∙ e, refl, refl))
    (λ y v e. let b = back y v e (ℕ_discrete y x) in (v, b, refl, N.holds y v b))
  where
    back : (y : ℕ) (v : Variable) → update Γ x used y ≡ live v → Dec (y ≡ x) → Γ y ≡ live v
    back y v e (yes q) = absurd (used≢live (sym (update_same Γ x used) ∙ ap (λ (k : ℕ). update Γ x used k) (sym q) ∙ e))
    back y v e (no q) = sym (update_other Γ x used y q) ∙ e
