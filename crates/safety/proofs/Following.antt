-- Following, as the judge does it (LANGUAGE 3.13 to 3.16), gives the certificates.
use Prim.Native.Nat.{ℕ, suc, ◌+◌, ◌-◌, ◌≤◌, ◌<◌}
use mathlib.Core.Path.{◌≡◌, refl, ap, ◌∙◌, subst}
use mathlib.Core.Logic.{◌⊎◌, inl, inr}
use mathlib.Core.Bool.{Bool, true, false, false≢true}
use mathlib.Core.Option.{Option, none, some}
use mathlib.Core.List.{List, []}
use lib.ListN.{length}
use lib.Dec.{leb, ltb}
use borrow.Author.Tests.{leb-true, leb-false, ltb-true, le-leb}
use Rattle.syntax.specs.Result.{ok, need, pick}
use Rattle.syntax.specs.Script.{Place}
use Rattle.statics.specs.Links.{leading_boxes}
use Rattle.statics.specs.Places.{every, only}
use Rattle.statics.specs.Environment.{Variable, Slot, free, used, live, Environment, Ty, holding}
use Rattle.statics.specs.Uses.{Unfinished, named_later}
use Rattle.statics.specs.Follow.{Met, follow, own_link, is_borrow, own_path, whole_slot, whole_there, value_whole}
use Rattle.statics.specs.Rules.{in_scope, reached, Located, judge_place}
use Rattle.statics.specs.Neat.{place, Among}
use Rattle.statics.proofs.Answers.{scoped, was_found}
use Rattle.statics.proofs.SetLaws.{every_in, only_in}
use Rattle.statics.proofs.NeatPaths.{onward_in}
use Rattle.statics.proofs.FollowClosed.{all_shut}
use Rattle.dynamics.specs.Values.{Value}
use Rattle.dynamics.specs.Store.{State}
use Rattle.syntax.proofs.Answers.{then, needed}
use Rattle.safety.proofs.Known.{by_name}
use Rattle.safety.proofs.Certificates.{Path, Own, Passed, Whole}
use Rattle.safety.proofs.Invariant.{Invariant}
use Rattle.safety.proofs.Finding.{Found, found}

-- ---- what following has met

module _ (Γ : Environment) where
  path_of : (n : ℕ) (p : Place) (ps : List Place) → follow n Γ p [] ≡ some ps → (P : Path Γ p) × (P.ps ≡ ps)
  path_of n p ps h =
      let A = all_shut Γ n p ps h in
      (record { ps = ps; start = A.0; on = λ q v n i e l m. A.1 q i (place n.root (n.follows + (q.follows - suc (leading_boxes v.chain)))) (onward_in (Γ q.root) v q.follows n e l m) }, refl)

-- ---- what the tests on a place met say

-- What `Own` asks of a place, said of its root's slot.
OwnSlot : Slot → ℕ → Type 0
OwnSlot sl r = (v : Variable) × (sl ≡ live v) × (((r ≤ leading_boxes v.chain) × (r ≤ v.moved_from)) ⊎ ((leading_boxes v.chain < r) × (leading_boxes v.chain < v.moved_from) × (is_borrow v.borrow ≡ true)))

own_slot : (sl : Slot) (r : ℕ) → own_path sl r ≡ true → OwnSlot sl r
unfolding own_path holding OwnSlot
own_slot free r h = absurd (false≢true h)
own_slot used r h = absurd (false≢true h)
own_slot (live v) r h = (v, refl, go (leb r (leading_boxes v.chain)) refl h)
  where
    beyond : (b : Bool) → ltb (leading_boxes v.chain) v.moved_from ≡ b → pick b (is_borrow v.borrow) false ≡ true
        → (leading_boxes v.chain < v.moved_from) × (is_borrow v.borrow ≡ true)
    beyond true e k = (ltb-true _ _ e, k)
    beyond false e k = absurd (false≢true k)

    go : (b : Bool) → leb r (leading_boxes v.chain) ≡ b
        → pick b (leb r v.moved_from) (pick (ltb (leading_boxes v.chain) v.moved_from) (is_borrow v.borrow) false) ≡ true
        → ((r ≤ leading_boxes v.chain) × (r ≤ v.moved_from)) ⊎ ((leading_boxes v.chain < r) × (leading_boxes v.chain < v.moved_from) × (is_borrow v.borrow ≡ true))
    go true e k = inl (leb-true _ _ e, leb-true _ _ k)
    go false e k = let z = beyond (ltb (leading_boxes v.chain) v.moved_from) refl k in inr (leb-false _ _ e, z.0, z.1)

own_of : (Γ : Environment) (q : Place) → own_path (Γ q.root) q.follows ≡ true → Own Γ q
unfolding OwnSlot
own_of Γ q h = let O = own_slot (Γ q.root) q.follows h in record { v = O.0; is = O.1; at = O.2 }

whole_slot_law : (sl : Slot) → whole_slot sl ≡ true → (v : Variable) × (sl ≡ live v) × (leading_boxes v.chain < v.moved_from)
unfolding whole_slot holding
whole_slot_law free h = absurd (false≢true h)
whole_slot_law used h = absurd (false≢true h)
whole_slot_law (live v) h = (v, refl, ltb-true _ _ h)

link_there : (sl : Slot) (v : Variable) (r : ℕ) → sl ≡ live v → r ≤ leading_boxes v.chain → own_link sl r ≡ true
unfolding own_link
link_there sl v r e h = rw e (le-leb r (leading_boxes v.chain) h)

-- ---- the certificates

placed : (nv : ℕ) (Γ : Environment) (i : ℕ) (p : Place) (l : Located) → judge_place nv Γ i p ≡ ok l → Passed Γ p l
unfolding judge_place
placed nv Γ i p l h =
    let a = then (in_scope (Γ p.root) (31, i)) _ l h in
    let b = then (need (leb p.follows (length a.0.chain)) (32, i)) _ l a.2 in
    let c = then (reached (follow (suc nv) Γ p []) (33, i)) _ l b.2 in
    let d = then (need (every (λ q. own_path (Γ q.root) q.follows) c.0) (33, i)) _ l c.2 in
    let e : record { root = a.0; to = only (λ (q : Place). own_link (Γ q.root) q.follows) c.0 } ≡ l = let z = d.2 in cc in
    let P = path_of Γ (suc nv) p c.0 (was_found _ _ _ c.1) in
    record {
      is = scoped _ _ _ a.1 ∙ ap (λ (k : Located). live k.root) e;
      long = rw (← e) (leb-true _ _ (needed _ _ _ b.1));
      path = P.0;
      own = λ q k. own_of Γ q (every_in (λ q. own_path (Γ q.root) q.follows) q c.0 (needed _ _ _ d.1) (subst (λ (y : List Place). Among q y) P.1 k));
      to = λ q v k f m. subst (λ (y : Located). Among q y.to) e (only_in (λ (q : Place). own_link (Γ q.root) q.follows) q c.0 (subst (λ (y : List Place). Among q y) P.1 k) (link_there (Γ q.root) v q.follows f m));
    }

pub is_whole : (nv : ℕ) (Γ : Environment) (x : ℕ) (v : Variable) → value_whole nv Γ x v ≡ true → Whole Γ x v
unfolding value_whole whole_there
is_whole nv Γ x v h = go (follow (suc nv) Γ (place x (length v.chain)) []) refl h
  where
    go : (m : Met) → follow (suc nv) Γ (place x (length v.chain)) [] ≡ m → whole_there Γ m ≡ true → Whole Γ x v
    go none e k = absurd (false≢true k)
    go (some ps) e k =
        let P = path_of Γ (suc nv) (place x (length v.chain)) ps e in
        record { path = P.0; all = λ q i. whole_slot_law (Γ q.root) (every_in (λ q. whole_slot (Γ q.root)) q ps k (subst (λ (y : List Place). Among q y) P.1 i)) }

module _ {nv : ℕ} {ns : Unfinished} {Γ : Environment} {o : Option Ty} {lv : ℕ} {s : State} {v : Value} (I : Invariant nv ns Γ o lv s v) where
  pub judged_found : (i j : ℕ) (p : Place) (l : Located) → named_later ns p.root ≡ true → judge_place nv Γ j p ≡ ok l → Found I p l i
  judged_found i j p l nm h = found I i p l (by_name nm) (placed nv Γ j p l h)
