-- Following by roots: what is met is determined by the set of variables met, which is what a loop over a set of roots finds.
use Prim.Native.Nat.{ℕ, suc, ◌+◌, ◌-◌, ◌≤◌, ◌<◌}
use native.Mathlib.Omega.{arith}
use mathlib.Core.Path.{◌≡◌, refl, sym, ap, ◌∙◌, subst}
use mathlib.Core.Bool.{Bool, true, false, false≢true}
use mathlib.Core.Option.{some}
use mathlib.Core.List.{List, []}
use lib.ListN.{length, drop, length-drop}
use lib.Dec.{leb, ltb, eqb}
use borrow.Author.Tests.{le-leb, ltb-true, lt-ltb, eqb-true, eq-eqb}
use Rattle.syntax.specs.Result.{ok, err, Refusal, need, ◌>>=◌, pick}
use Rattle.syntax.specs.Script.{Place}
use Rattle.statics.specs.Links.{Link, leading_boxes}
use Rattle.statics.specs.Places.{every, only, rooted}
use Rattle.statics.specs.Environment.{places, Variable, Slot, free, used, live, Environment, borrow_of}
use Rattle.statics.specs.Follow.{Met, follow, own_link, own_path, whole_slot, whole_there, value_whole}
use Rattle.statics.specs.Rules.{Judged, in_scope, reached, Located, judge_place}
use Rattle.statics.specs.Neat.{place, Among, Distinct, Neat, SameSet}
use Rattle.statics.specs.Roots.{lengths, place_at, places_from, places_of, goes_on, leads, MetFrom, ends_of}
use Rattle.statics.proofs.SetLaws.{every_in, rooted_in, rooted_out}
use Rattle.statics.proofs.NeatPaths.{Lies, follows_is, lies_on, met, onward_out, onward_in}
use Rattle.statics.proofs.RootLaws.{from_out, from_in, from_once, from_only, lies_at}
use Rattle.statics.proofs.FollowBound.{all_met}
use Rattle.statics.proofs.FollowClosed.{all_shut}
use Rattle.statics.proofs.ClosureLoop.{closure_once}
use Rattle.statics.proofs.SetEquality.{all_pass, every_same, only_same}

abbrev pub located : Variable → List Place → Located
located v ps = record { root = v; to = ps }

-- ---- following

pub leads_out : (Γ : Environment) (m y z : ℕ) → leads Γ m y z ≡ true → (v : Variable) × (Γ y ≡ live v) × (leading_boxes v.chain < length v.chain - m) × (rooted (places v.borrow) z ≡ true)
unfolding leads goes_on borrow_of
leads_out Γ m y z h = go (Γ y) refl h
  where
    with_v : (v : Variable) → Γ y ≡ live v → (b : Bool) → ltb (leading_boxes v.chain) (length v.chain - m) ≡ b → pick b (rooted (places v.borrow) z) false ≡ true
        → (v : Variable) × (Γ y ≡ live v) × (leading_boxes v.chain < length v.chain - m) × (rooted (places v.borrow) z ≡ true)
    with_v v e true g k = (v, e, ltb-true _ _ g, k)
    with_v v e false g k = absurd (false≢true k)

    go : (sl : Slot) → Γ y ≡ sl → pick (goes_on sl m) (rooted (places (borrow_of sl)) z) false ≡ true
        → (v : Variable) × (Γ y ≡ live v) × (leading_boxes v.chain < length v.chain - m) × (rooted (places v.borrow) z ≡ true)
    go free e k = absurd (false≢true k)
    go used e k = absurd (false≢true k)
    go (live v) e k = with_v v e (ltb (leading_boxes v.chain) (length v.chain - m)) refl k

pub leads_in : (Γ : Environment) (m y z : ℕ) (v : Variable) → Γ y ≡ live v → leading_boxes v.chain < length v.chain - m → rooted (places v.borrow) z ≡ true → leads Γ m y z ≡ true
unfolding leads goes_on borrow_of
leads_in Γ m y z v e l r = rw (e, lt-ltb (leading_boxes v.chain) (length v.chain - m) l) r

module _ {nv : ℕ} {Γ : Environment} {level : ℕ} (N : Neat nv Γ level) (p : Place) (v : Variable) (is : Γ p.root ≡ live v) (long : p.follows ≤ length v.chain) where
  abbrev rest : List Link
  rest = drop p.follows v.chain

  -- How many links are left after the place, and after every place met.
  abbrev pub left_after : ℕ
  left_after = length v.chain - p.follows

  rest_length : length rest ≡ left_after
  rest_length = length-drop p.follows v.chain

  starts : Lies Γ rest p
  starts = record { variable = v; is = is; long = long; rest = refl }

  at_root : (q : Place) → Lies Γ rest q → q ≡ place_at (lengths Γ) left_after q.root
  at_root q L = lies_at N rest q L ∙ ap (λ (k : ℕ). place_at (lengths Γ) k q.root) rest_length

  follows_left : (q : Place) (L : Lies Γ rest q) → q.follows ≡ length L.variable.chain - left_after
  follows_left q L = follows_is L ∙ ap (λ (k : ℕ). length L.variable.chain - k) rest_length

  module _ (ps : List Place) (found : follow (suc nv) Γ p [] ≡ some ps) where
    all : (q : Place) → Among q ps → Lies Γ rest q
    all = met Γ (λ q. Lies Γ rest q) (lies_on N rest) (suc nv) p [] ps found starts (λ k i. absurd i)

    -- The roots of what is met are the variables met.
    pub roots_met : MetFrom Γ left_after p.root (rooted ps)
    roots_met = record {
      start = λ x h. ap (rooted ps) (sym (eqb-true p.root x h)) ∙ rooted_in p ps (all_shut Γ (suc nv) p ps found).0;
      closed = λ y z h k.
          let q = rooted_out ps y h in
          let L = all q.0 q.1 in
          let o = leads_out Γ left_after y z k in
          let w : L.variable ≡ o.0 = (let a : live L.variable ≡ live o.0 = sym L.is ∙ ap Γ q.2 ∙ o.1 in cc) in
          let r = rooted_out (places o.0.borrow) z o.3 in
          let f : q.0.follows ≡ length o.0.chain - left_after = follows_left q.0 L ∙ ap (λ (u : Variable). length u.chain - left_after) w in
          let i = onward_in (Γ q.0.root) o.0 q.0.follows r.0 (ap Γ q.2 ∙ o.1) (omega (arith, o.2, f)) r.1 in
          let j = (all_shut Γ (suc nv) p ps found).1 q.0 q.1 (place r.0.root (r.0.follows + (q.0.follows - suc (leading_boxes o.0.chain)))) i in
          ap (rooted ps) (sym r.2) ∙ rooted_in (place r.0.root (r.0.follows + (q.0.follows - suc (leading_boxes o.0.chain)))) ps j;
      least = λ s a b y h.
          let q = rooted_out ps y h in
          let J = met Γ (λ q. (Lies Γ rest q) × (s q.root ≡ true))
          (λ q n K i.
          let L = K.0 in
          let o = onward_out (Γ q.root) L.variable q.follows n L.is i in
          let z : n.root ≡ o.1.root = ap (λ (y : Place). y.root) o.3 in
          (lies_on N rest q n L i, b q.root n.root K.1 (leads_in Γ left_after q.root n.root L.variable L.is (omega (arith, o.0, follows_left q L)) (ap (rooted (places L.variable.borrow)) z ∙ rooted_in o.1 (places L.variable.borrow) o.2))))
          (suc nv) p [] ps found (starts, a p.root (eq-eqb p.root p.root refl)) (λ k i. absurd i) q.0 q.1 in
          ap s (sym q.2) ∙ J.1;
    }

    -- So what is met are the places of any set found to be the variables met, each once.
    met_by_roots : (f : ℕ → Bool) → MetFrom Γ left_after p.root f → SameSet ps (places_of nv f (lengths Γ) left_after)
    unfolding places_of
    met_by_roots f F = record {
      to = λ q i.
          let L = all q i in
          let e : f q.root ≡ true = closure_once (eqb p.root) (leads Γ left_after) f (rooted ps) F roots_met q.root ∙ rooted_in q ps i in
          subst (λ (y : Place). Among y (places_from f (lengths Γ) left_after 0 nv)) (sym (at_root q L)) (from_in f (lengths Γ) left_after 0 nv q.root (omega arith) (let z = N.low q.root L.variable L.is in omega arith) e);
      from = λ q i.
          let k = from_out f (lengths Γ) left_after 0 nv q i in
          let r = rooted_out ps q.root (sym (closure_once (eqb p.root) (leads Γ left_after) f (rooted ps) F roots_met q.root) ∙ k.2) in
          subst (λ (y : Place). Among y ps) (at_root r.0 (all r.0 r.1) ∙ ap (place_at (lengths Γ) left_after) r.2 ∙ sym k.3) r.1;
      once = (let A = all_met N p v is long in let z : A.0 ≡ ps = (let e = sym A.1 ∙ found in cc) in subst Distinct z A.2.apart);
      once' = from_once f (lengths Γ) left_after 0 nv;
    }

  judged : (i : ℕ) (u : Variable) → Γ p.root ≡ live u → leb p.follows (length u.chain) ≡ true → (ps : List Place) → follow (suc nv) Γ p [] ≡ some ps
      → judge_place nv Γ i p ≡ pick (every (λ q. own_path (Γ q.root) q.follows) ps) (ok (located u (only (λ q. own_link (Γ q.root) q.follows) ps))) (err (33, i))
  unfolding judge_place in_scope reached need ◌>>=◌
  judged i u e l ps h = rw (e, l, h) (go (every (λ q. own_path (Γ q.root) q.follows) ps) (located u (only (λ q. own_link (Γ q.root) q.follows) ps)))
    where
      go : (b : Bool) (k : Located) → ◌≡◌ {A = Judged Located} (need {E = Refusal} b (33, i) >>= λ _. ok k) (pick b (ok k) (err (33, i)))
      go true k = refl
      go false k = refl

  -- ---- for code: f is the set that a loop over roots finds

  module _ (f : ℕ → Bool) (F : MetFrom Γ left_after p.root f) where
    -- The judge's answer on the place, once 31 and 32 are passed: 33 by the own path of every variable met, and where it ends, the ends among them.
    pub place_by_roots : (i : ℕ)
        → (ends : List Place) × (SameSet ends (places_of nv (ends_of Γ left_after f) (lengths Γ) left_after))
        × (judge_place nv Γ i p ≡ pick (every (λ q. own_path (Γ q.root) q.follows) (places_of nv f (lengths Γ) left_after)) (ok (located v ends)) (err (33, i)))
    unfolding judge_place places_of
    place_by_roots i =
        let A = all_met N p v is long in
        let S = met_by_roots A.0 A.1 f F in
        let own : Place → Bool = λ q. own_path (Γ q.root) q.follows in
        let link : Place → Bool = λ q. own_link (Γ q.root) q.follows in (
          only link A.0,
          subst (λ (k : List Place). SameSet (only link A.0) k) (from_only f (lengths Γ) left_after link 0 nv) (only_same S link),
          judged i v is (le-leb p.follows (length v.chain) long) A.0 A.1
              ∙ ap (λ (b : Bool). pick b (ok (located v (only link A.0))) (err (33, i))) (every_same S own),
        )

    -- The test "value whole", for the place at the end of the chain: every variable met is whole.
    pub whole_by_roots : p.follows ≡ length v.chain → value_whole nv Γ p.root v ≡ every (λ q. whole_slot (Γ q.root)) (places_of nv f (lengths Γ) left_after)
    unfolding value_whole whole_there
    whole_by_roots e =
        let A = all_met N p v is long in
        ap (λ (k : ℕ). whole_there Γ (follow (suc nv) Γ (place p.root k) [])) (sym e) ∙ ap (λ (k : Met). whole_there Γ k) A.1 ∙ every_same (met_by_roots A.0 A.1 f F) (λ q. whole_slot (Γ q.root))

-- A test on all places of a set of roots is one on all roots in it.
pub every_root : (nv : ℕ) (f : ℕ → Bool) (Γ : Environment) (m : ℕ) (g : Place → Bool)
    → (every g (places_of nv f (lengths Γ) m) ≡ true → (x : ℕ) → x < nv → f x ≡ true → g (place_at (lengths Γ) m x) ≡ true)
    × (((x : ℕ) → x < nv → f x ≡ true → g (place_at (lengths Γ) m x) ≡ true) → every g (places_of nv f (lengths Γ) m) ≡ true)
unfolding places_of
every_root nv f Γ m g = (
  λ h x l e. every_in g (place_at (lengths Γ) m x) (places_from f (lengths Γ) m 0 nv) h (from_in f (lengths Γ) m 0 nv x (omega arith) (omega arith) e),
  λ h. all_pass g (places_from f (lengths Γ) m 0 nv) (λ q i. let k = from_out f (lengths Γ) m 0 nv q i in ap g k.3 ∙ h q.root (omega (arith, k.1)) k.2),
)
