-- An assign leaves a neat state: the new places at every variable that may be written.
use Prim.Native.Nat.{ℕ}
use mathlib.Core.Path.{◌≡◌, refl, sym, ap, ◌∙◌, subst}
use mathlib.Core.Logic.{inl, inr}
use mathlib.Core.Bool.{Bool, true, false, not}
use mathlib.Core.Option.{Option, none, some}
use mathlib.Core.List.{List}
use lib.ListN.{take, drop}
use lib.Dec.{leb}
use borrow.Author.Tests.{leb-true}
use Rattle.syntax.specs.Result.{ok, ◌>>=◌, need, pick}
use Rattle.syntax.specs.Script.{Place}
use Rattle.statics.specs.Links.{Link, no_shared, same_links}
use Rattle.statics.specs.Places.{every, unite, rooted}
use Rattle.statics.specs.Environment.{Borrow, places, Variable, Slot, used, live, Environment, Ty, fresh, refilled, wider, widened, single, write, level_of, lives_at}
use Rattle.statics.specs.Uses.{Unfinished}
use Rattle.statics.specs.Bars.{write_barred}
use Rattle.statics.specs.Rules.{Out, valued, Located, judge_place, judge_write, judge_assign}
use Rattle.statics.specs.Neat.{Among, Holds, Neat, NeatValue}
use Rattle.syntax.proofs.Answers.{then, needed}
use Rattle.statics.proofs.Answers.{err≢ok, same_answer}
use Rattle.statics.proofs.LinkChains.{same_links_law}
use Rattle.statics.proofs.SetLaws.{unite_out, every_in, rooted_out}
use Rattle.statics.proofs.SetOrder.{unite_ordered}
use Rattle.statics.proofs.NeatSteps.{Lives, Back, Fine, holds_undrop, holds_set, no_value, fine_step}
use Rattle.statics.proofs.NeatPaths.{Led, led, own_link_law}

-- ---- one variable written

abbrev written : Bool → Bool → Slot → Borrow → Slot
written c d sl b = pick c (pick d (refilled sl b) (widened sl b)) sl

written_lives : (sl : Slot) (b : Borrow) (k : Variable) (c d : Bool) → sl ≡ live k → (q : Variable) × (written c d sl b ≡ live q) × (q.chain ≡ k.chain) × (q.level ≡ k.level)
written_lives sl b k true true e = (fresh k.chain b k.level, ap (λ (y : Slot). refilled y b) e, refl, refl)
written_lives sl b k true false e = (wider k b, ap (λ (y : Slot). widened y b) e, refl, refl)
written_lives sl b k false d e = (k, e, refl, refl)

written_used : (sl : Slot) (b : Borrow) (c d : Bool) → sl ≡ used → written c d sl b ≡ used
written_used sl b true true e = ap (λ (y : Slot). refilled y b) e
written_used sl b true false e = ap (λ (y : Slot). widened y b) e
written_used sl b false d e = e

-- It has the new places, or the old ones too.
written_back : (Γ : Environment) (sl : Slot) (b : Borrow) (e v : Variable) (d : Bool) → sl ≡ live e → pick d (refilled sl b) (widened sl b) ≡ live v
    → Holds Γ e.chain e.level e.borrow → Holds Γ e.chain e.level b → (e.level ≡ v.level) × (Holds Γ v.chain v.level v.borrow)
written_back Γ sl b e v true h k old new =
    let z : fresh e.chain b e.level ≡ v = (let f : live (fresh e.chain b e.level) ≡ live v = ap (λ (y : Slot). refilled y b) (sym h) ∙ k in cc) in
    (ap (λ (y : Variable). y.level) z, subst (λ (y : Variable). Holds Γ y.chain y.level y.borrow) z new)
written_back Γ sl b e v false h k old new =
    let z : wider e b ≡ v = (let f : live (wider e b) ≡ live v = ap (λ (y : Slot). widened y b) (sym h) ∙ k in cc) in (
      ap (λ (y : Variable). y.level) z,
      subst (λ (y : Variable). Holds Γ y.chain y.level y.borrow) z
          (holds_set e.chain (unite (places e.borrow) (places b))
          (λ p i. elim (unite_out p (places e.borrow) (places b) i) [ inl j ↦ old.recorded p j | inr j ↦ new.recorded p j ])
          (unite_ordered (places e.borrow) (places b) new.ordered)),
    )

-- ---- all of them

module _ {nv : ℕ} {Γ : Environment} {level : ℕ} (N : Neat nv Γ level) where
  module _ (p : Place) (l : Located) (t : Ty) (L : Led N p l) (V₀ : Holds Γ t.links level t.borrow) (links : drop p.follows l.root.chain ≡ t.links)
      (lives : every (λ (q : Place). lives_at Γ t.borrow (level_of (Γ q.root))) l.to ≡ true) where
    -- The new value at a variable that may be written: by 39 it has the links, by 40 its places live long enough.
    new_holds : (q : Place) → Among q l.to → (e : Variable) → Γ q.root ≡ live e → Holds Γ e.chain e.level t.borrow
    unfolding lives_at level_of
    new_holds q i e h =
        let E = L.ends q i in
        let z : E.0.variable ≡ e = (let a : live E.0.variable ≡ live e = sym E.0.is ∙ h in cc) in
        let d = own_link_law (Γ q.root) e q.follows h E.1 in
        let r : drop q.follows e.chain ≡ t.links = subst (λ (y : Variable). drop q.follows y.chain ≡ drop p.follows l.root.chain) z E.0.rest ∙ links in
        let a = every_in (λ (w : Place). lives_at Γ t.borrow (level_of (Γ w.root))) q l.to lives i in
        holds_undrop e.chain q.follows d (subst (λ (y : List Link). Holds Γ y e.level t.borrow) (sym r) (record {
          recorded = λ k j.
              let R = V₀.recorded k j in
              let b = every_in (λ (w : Place). leb (level_of (Γ w.root)) (level_of (Γ q.root))) k (places t.borrow) a j in
              let c : leb R.variable.level e.level ≡ true =
              subst (λ (y : Slot). leb (level_of y) e.level ≡ true) R.is (subst (λ (y : Slot). leb (level_of (Γ k.root)) (level_of y) ≡ true) h b) in
              record { variable = R.variable; is = R.is; around = leb-true _ _ c; long = R.long; rest = R.rest };
          ordered = V₀.ordered;
          end = V₀.end;
        }))

    write_lives : Lives Γ (write Γ l.to t.borrow)
    unfolding write
    write_lives x k e = written_lives (Γ x) t.borrow k (rooted l.to x) (single l.to) e

    write_used : (x : ℕ) → Γ x ≡ used → write Γ l.to t.borrow x ≡ used
    unfolding write
    write_used x e = written_used (Γ x) t.borrow (rooted l.to x) (single l.to) e

    write_back : Back Γ (write Γ l.to t.borrow)
    unfolding write
    write_back x v h = go (rooted l.to x) refl h
      where
        go : (c : Bool) → rooted l.to x ≡ c → written c (single l.to) (Γ x) t.borrow ≡ live v
            → (e : Variable) × (Γ x ≡ live e) × (e.level ≡ v.level) × (Holds Γ v.chain v.level v.borrow)
        go true c k =
            let s = rooted_out l.to x c in
            let E = (L.ends s.0 s.1).0 in
            let h : Γ x ≡ live E.variable = ap Γ (sym s.2) ∙ E.is in
            let B = written_back Γ (Γ x) t.borrow E.variable v (single l.to) h k (N.holds x E.variable h) (new_holds s.0 s.1 E.variable E.is) in
            (E.variable, h, B.0, B.1)
        go false c k = (v, k, refl, N.holds x v k)

    write_fine : Fine nv Γ (write Γ l.to t.borrow) none level
    write_fine = fine_step N write_lives write_back write_used (no_value Γ level)

  -- What an assign leaves, before 35 is asked.
  pub neat_write : (i : ℕ) (p : Place) (o : Option Ty) (out : Out) → NeatValue Γ level o → judge_write nv Γ i p o ≡ ok out → Fine nv Γ out.0 out.1 level
  unfolding judge_write valued ◌>>=◌
  neat_write i p none out V₀ h = absurd (err≢ok h)
  neat_write i p (some t) out V₀ h =
      let b = then (judge_place nv Γ i p) _ out h in
      let c = then (need (no_shared (take p.follows b.0.root.chain)) (36, i)) _ out b.2 in
      let d = then (need (same_links (drop p.follows b.0.root.chain) t.links) (39, i)) _ out c.2 in
      let e = then (need (every (λ (q : Place). lives_at Γ t.borrow (level_of (Γ q.root))) b.0.to) (40, i)) _ out d.2 in
      let z : (write Γ b.0.to t.borrow, none) ≡ out = let k = e.2 in cc in
      subst (λ (k : Out). Fine nv Γ k.0 k.1 level) z
      (write_fine p b.0 t (led N i p b.0 b.1) (V₀ t refl) (same_links_law _ _ (needed _ _ _ d.1)) (needed _ _ _ e.1))

  pub neat_assign : (ns : Unfinished) (i : ℕ) (p : Place) (o : Option Ty) (out : Out) → NeatValue Γ level o → judge_assign nv ns Γ i p o ≡ ok out → Fine nv Γ out.0 out.1 level
  unfolding judge_assign
  neat_assign ns i p o out V₀ h =
      let b = then (judge_write nv Γ i p o) _ out h in
      let c = then (need (not (write_barred nv ns b.0.0 p.root)) (35, i)) _ out b.2 in
      subst (λ (k : Out). Fine nv Γ k.0 k.1 level) (same_answer c.2) (neat_write i p o b.0 V₀ b.1)
