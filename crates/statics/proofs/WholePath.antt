-- A value that is whole has a whole path: on the way to its end each variable is met that is met on the way to the place, and nothing of
-- them is moved away. So where the value must be whole (33), the place need not be followed.
use Prim.Native.Nat.{ℕ, suc, ◌-◌, ◌≤◌, ◌<◌}
use native.Mathlib.Omega.{arith}
use native.Mathlib.Decide.{dec_lt}
use mathlib.Core.Path.{◌≡◌, refl, sym, ap, ◌∙◌}
use mathlib.Core.Bool.{Bool, true, false, false≢true}
use mathlib.Core.Option.{Option, none, some}
use mathlib.Core.List.{List, [], ◌∷◌}
use lib.ListN.{length, take}
use borrow.Author.Tests.{ltb-true, le-leb, lt-leb}
use Rattle.syntax.specs.Result.{ok, err, need, ◌>>=◌, pick}
use Rattle.syntax.specs.Script.{Place}
use Rattle.statics.specs.Links.{leading_boxes, last_shared}
use Rattle.statics.specs.Places.{every, rooted}
use Rattle.statics.specs.Environment.{places, Variable, Slot, free, used, live, Environment, holding, borrows_at}
use Rattle.statics.specs.Follow.{past, is_borrow, own_path, whole_slot, value_whole}
use Rattle.statics.specs.Rules.{Judged, Located, judge_place, recorded_places}
use Rattle.statics.specs.Neat.{place, Neat}
use Rattle.statics.specs.Roots.{links_of, lengths, places_of, leads, MetFrom}
use Rattle.statics.proofs.LinkChains.{last_at}
use Rattle.statics.proofs.FollowBound.{all_met}
use Rattle.statics.proofs.BorrowLinks.{is_linked}
use Rattle.statics.proofs.FollowRoots.{located, leads_out, leads_in, roots_met, place_by_roots, whole_by_roots, every_root}

-- With fewer links left, following goes on wherever it went on.
leads_on : (Γ : Environment) (m k y z : ℕ) → k ≤ m → leads Γ m y z ≡ true → leads Γ k y z ≡ true
leads_on Γ m k y z l h = let o = leads_out Γ m y z h in leads_in Γ k y z o.0 o.1 (omega (arith, o.2)) o.3

met_on : (Γ : Environment) (m k x : ℕ) (f g : ℕ → Bool) → k ≤ m → MetFrom Γ m x f → MetFrom Γ k x g → (y : ℕ) → f y ≡ true → g y ≡ true
met_on Γ m k x f g l F G = F.least g G.start (λ y z h e. G.closed y z h (leads_on Γ m k y z l e))

-- Of a whole variable no own path is moved away.
whole_own : {nv : ℕ} {Γ : Environment} {level : ℕ} → Neat nv Γ level → (x r : ℕ) → r ≤ lengths Γ x → whole_slot (Γ x) ≡ true → own_path (Γ x) r ≡ true
unfolding whole_slot own_path holding links_of
whole_own {nv} {Γ} {level} N x r l h = go (Γ x) refl l h
  where
    at : (v : Variable) → Γ x ≡ live v → r ≤ length v.chain → holding v ≡ true → Dec (leading_boxes v.chain < r) → own_path (live v) r ≡ true
    at v e l h (yes k) =
        let end : is_borrow v.borrow ≡ true = ap is_borrow (N.holds x v e).end ∙ is_linked v.chain (places v.borrow) (omega arith) in
        rw (lt-leb r (leading_boxes v.chain) k, h) end
    at v e l h (no k) = let z = ltb-true (leading_boxes v.chain) v.moved_from h in rw (le-leb r (leading_boxes v.chain) (omega arith)) (le-leb r v.moved_from (omega arith))

    go : (s : Slot) → Γ x ≡ s → r ≤ links_of s → whole_slot s ≡ true → own_path s r ≡ true
    go free e l h = absurd (false≢true h)
    go used e l h = absurd (false≢true h)
    go (live v) e l h = at v e l h (dec_lt (leading_boxes v.chain) r)

-- The place passes 31 and 32.
module _ {nv : ℕ} {Γ : Environment} {level : ℕ} (N : Neat nv Γ level) (p : Place) (v : Variable) (is : Γ p.root ≡ live v) (long : p.follows ≤ length v.chain) (i : ℕ) where
  -- The end of the value.
  abbrev end : Place
  end = place p.root (length v.chain)

  -- Where the place leads does not matter for its answer: there is one, or a refusal by 33.
  judged : (b : Bool) × (to : List Place) × (judge_place nv Γ i p ≡ pick b (ok (located v to)) (err (33, i))) × (value_whole nv Γ p.root v ≡ true → b ≡ true)
  judged =
      let A = all_met N p v is long in
      let F = roots_met N p v is long A.0 A.1 in
      let B = all_met N end v is (omega arith) in
      let G = roots_met N end v is (omega arith) B.0 B.1 in
      let own : Place → Bool = λ q. own_path (Γ q.root) q.follows in
      let whole : Place → Bool = λ q. whole_slot (Γ q.root) in
      let m = length v.chain - p.follows in
      let k = length v.chain - length v.chain in
      let P = place_by_roots N p v is long (rooted A.0) F i in (
        every own (places_of nv (rooted A.0) (lengths Γ) m),
        P.0,
        P.2,
        λ h.
            (every_root nv (rooted A.0) Γ m own).1
            (λ x l e. whole_own N x (lengths Γ x - m) (omega arith)
            ((every_root nv (rooted B.0) Γ k whole).0 (sym (whole_by_roots N end v is (omega arith) (rooted B.0) G refl) ∙ h) x l
            (met_on Γ m k p.root (rooted A.0) (rooted B.0) (omega arith) F G x e))),
      )

  -- The value whole, 33 of the path is passed.
  pub whole_path : value_whole nv Γ p.root v ≡ true → (to : List Place) × (judge_place nv Γ i p ≡ ok (located v to))
  whole_path h = let J = judged in (J.1, J.2 ∙ ap (λ (b : Bool). pick b (ok (located v J.1)) (err (33, i))) (J.3 h))

  -- The value not whole, it is 33 that fails, of the path or of the value.
  pub not_whole : value_whole nv Γ p.root v ≡ false → {A : Type 0} (next : Located → Judged A)
      → (judge_place nv Γ i p >>= λ l. need (value_whole nv Γ p.root l.root) (33, i) >>= λ _. next l) ≡ err (33, i)
  unfolding need ◌>>=◌
  not_whole h {A} next = let J = judged in go J.0 J.1 J.2
    where
      go : (b : Bool) (to : List Place) → judge_place nv Γ i p ≡ pick b (ok (located v to)) (err (33, i))
          → (judge_place nv Γ i p >>= λ l. need (value_whole nv Γ p.root l.root) (33, i) >>= λ _. next l) ≡ err (33, i)
      go true to e = rw (e, h)
      go false to e = rw e

-- So what a shared borrow records is always found (LANGUAGE 3.21): the place up to its last shared link is the beginning of a whole path.
pub always_recorded : {nv : ℕ} {Γ : Environment} {level : ℕ} → Neat nv Γ level → (p : Place) (v : Variable) → Γ p.root ≡ live v → p.follows ≤ length v.chain
    → value_whole nv Γ p.root v ≡ true → (i : ℕ) (o : Option ℕ) → last_shared (take p.follows v.chain) ≡ o → (ps : List Place) × (recorded_places nv Γ i p o ≡ ok ps)
unfolding recorded_places ◌>>=◌
always_recorded N p v is long h i none e = (p ∷ [], refl)
always_recorded {nv} {Γ} N p v is long h i (some j) e =
    let at = last_at p.follows v.chain j e in
    let W = whole_path N (place p.root j) v is (omega (arith, at.0, long)) i h in
    (past (borrows_at Γ W.0) (p.follows - suc j), rw W.1)
