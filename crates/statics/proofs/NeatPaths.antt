-- Following a place in a neat state: every place met is in scope, and the links remaining after it are the same all along the way.
use Prim.Native.Nat.{ℕ, zero, suc, ◌+◌, ◌-◌, ◌≤◌, ◌<◌}
use native.Mathlib.Omega.{arith}
use mathlib.Core.Path.{◌≡◌, refl, sym, ap, ap₂, ◌∙◌, subst}
use mathlib.Core.Logic.{inl, inr}
use mathlib.Core.Bool.{Bool, true, false}
use mathlib.Core.Option.{none, some}
use mathlib.Core.List.{List, [], ◌∷◌}
use lib.ListN.{length, drop, length-drop}
use lib.Dec.{leb}
use borrow.Author.Tests.{leb-true, leb-false}
use Rattle.syntax.specs.Result.{ok, need, pick}
use Rattle.syntax.specs.Script.{Place}
use Rattle.statics.specs.Links.{Link, leading_boxes}
use Rattle.statics.specs.Places.{member, every, only}
use Rattle.statics.specs.Environment.{places, Variable, Slot, live, Environment, borrow_of, borrows_at}
use Rattle.statics.specs.Follow.{past, onward, Met, on_met, meet_all, follow, own_link, own_path}
use Rattle.statics.specs.Rules.{in_scope, reached, Located, judge_place}
use Rattle.statics.specs.Neat.{place, Among, behind, Recorded, Neat}
use Rattle.syntax.proofs.Answers.{then, needed}
use Rattle.statics.proofs.Answers.{none≢some, scoped, was_found}
use Rattle.statics.proofs.LinkChains.{drop_add, same_behind}
use Rattle.statics.proofs.SetLaws.{only_out, past_in, past_out, borrows_out}
use Rattle.statics.proofs.NeatSteps.{recorded_as}

-- The place is in scope and long enough, and has the links m left.
pub record Lies (Γ : Environment) (m : List Link) (q : Place) : Type 0 where
  pub variable : Variable
  pub is : Γ q.root ≡ live variable
  pub long : q.follows ≤ length variable.chain
  pub rest : drop q.follows variable.chain ≡ m

-- Its follows are the length of the root's chain less what is left.
pub follows_is : {Γ : Environment} {m : List Link} {q : Place} (L : Lies Γ m q) → q.follows ≡ length L.variable.chain - length m
follows_is {Γ} {m} {q} L =
    let a = length-drop q.follows L.variable.chain in
    let b = ap (λ (y : List Link). length y) L.rest in
    let c = L.long in
    omega arith

-- So there is one such place for each root.
pub one_each : {Γ : Environment} {m : List Link} (p q : Place) → Lies Γ m p → Lies Γ m q → p.root ≡ q.root → p ≡ q
one_each {Γ} {m} p q L K e =
    let z : L.variable ≡ K.variable = (let a : live L.variable ≡ live K.variable = sym L.is ∙ ap Γ e ∙ K.is in cc) in
    let x : length L.variable.chain ≡ length K.variable.chain = ap (λ (y : Variable). length y.chain) z in
    ap₂ place e (omega (arith, follows_is L, follows_is K, x))

pub lies : {Γ : Environment} {ks : List Link} {l : ℕ} {p : Place} → Recorded Γ ks l p → Lies Γ (behind ks) p
lies R = record { variable = R.variable; is = R.is; long = R.long; rest = R.rest }

-- The place with some of the links passed that are left.
lies_past : {Γ : Environment} {m : List Link} {q : Place} (s : ℕ) → Lies Γ m q → s ≤ length m → Lies Γ (drop s m) (place q.root (q.follows + s))
lies_past {Γ} {m} {q} s L h = record {
  variable = L.variable;
  is = L.is;
  long = (let a = length-drop q.follows L.variable.chain in let b = ap (λ (y : List Link). length y) L.rest in let c = L.long in omega arith);
  rest = drop_add q.follows s L.variable.chain ∙ ap (λ (y : List Link). drop s y) L.rest;
}

pub recorded_past : {Γ : Environment} {ks : List Link} {l : ℕ} {p : Place} (js : List Link) (s : ℕ) → Recorded Γ ks l p → s ≤ length (behind ks) → drop s (behind ks) ≡ behind js
    → Recorded Γ js l (place p.root (p.follows + s))
unfolding lies lies_past
recorded_past js s R h e = let L = lies_past s (lies R) h in record { variable = R.variable; is = R.is; around = R.around; long = L.long; rest = L.rest ∙ e }

-- The links of v from r on, where r passes its borrow link, are what is behind it from there on.
pub beyond : (ks : List Link) (r : ℕ) → leading_boxes ks < r → r ≤ length ks → (drop (r - suc (leading_boxes ks)) (behind ks) ≡ drop r ks) × (r - suc (leading_boxes ks) ≤ length (behind ks))
beyond ks r h g =
    let x : suc (leading_boxes ks) + (r - suc (leading_boxes ks)) ≡ r = omega arith in
    let y = length-drop (suc (leading_boxes ks)) ks in
    (sym (drop_add (suc (leading_boxes ks)) (r - suc (leading_boxes ks)) ks) ∙ ap (λ (k : ℕ). drop k ks) x, omega arith)

-- What holds of a place and goes on with it holds of all that is met.
module _ (Γ : Environment) (J : Place → Type 0) (on : (q n : Place) → J q → Among n (onward (Γ q.root) q.follows) → J n) where
  met_all : (go : Place → List Place → Met)
      → ((q : Place) (s ps : List Place) → go q s ≡ some ps → J q → ((k : Place) → Among k s → J k) → (k : Place) → Among k ps → J k)
      → (l seen ps : List Place) → meet_all l seen go ≡ some ps → ((k : Place) → Among k l → J k) → ((k : Place) → Among k seen → J k) → (k : Place) → Among k ps → J k
  unfolding meet_all on_met
  met_all go ih [] seen ps h jl js k i = let z : seen ≡ ps = cc in js k (subst (λ (y : List Place). Among k y) (sym z) i)
  met_all go ih (p ∷ l) seen ps h jl js k i = first (λ s e g. met_all go ih l s ps e (λ k j. jl k (inr j)) g k i) (go p seen) refl h
    where
      first : ((s : List Place) → meet_all l s go ≡ some ps → ((k : Place) → Among k s → J k) → J k) → (m : Met) → go p seen ≡ m
          → on_met m (λ s. meet_all l s go) ≡ some ps → J k
      first rest none e g = absurd (none≢some g)
      first rest (some s) e g = rest s g (ih p seen s e (jl p (inl refl)) js)

  pub met : (f : ℕ) (p : Place) (seen ps : List Place) → follow f Γ p seen ≡ some ps → J p → ((k : Place) → Among k seen → J k) → (k : Place) → Among k ps → J k
  unfolding follow
  met zero p seen ps h jp js k i = absurd (none≢some h)
  met (suc f) p seen ps h jp js k i = go (λ q s ps e. met f q s ps e) (member p seen) h
    where
      go : ((q : Place) (s ps : List Place) → follow f Γ q s ≡ some ps → J q → ((k : Place) → Among k s → J k) → (k : Place) → Among k ps → J k) → (b : Bool)
          → pick b (some seen) (meet_all (onward (Γ p.root) p.follows) (p ∷ seen) (λ q s. follow f Γ q s)) ≡ some ps → J k
      go ih true e = let z : seen ≡ ps = cc in js k (subst (λ (y : List Place). Among k y) (sym z) i)
      go ih false e = met_all (λ q s. follow f Γ q s) ih (onward (Γ p.root) p.follows) (p ∷ seen) ps e (λ n j. on p n jp j)
          (λ n j. elim j [ inl u ↦ subst J (sym u) jp | inr u ↦ js n u ]) k i

pub own_link_law : (sl : Slot) (v : Variable) (r : ℕ) → sl ≡ live v → own_link sl r ≡ true → r ≤ leading_boxes v.chain
unfolding own_link
own_link_law sl v r e h = leb-true r (leading_boxes v.chain) (subst (λ (k : Slot). own_link k r ≡ true) e h)

-- A place led on to comes from a recorded one.
pub onward_out : (sl : Slot) (v : Variable) (r : ℕ) (n : Place) → sl ≡ live v → Among n (onward sl r)
    → (leading_boxes v.chain < r) × (k : Place) × (Among k (places v.borrow)) × (n ≡ place k.root (k.follows + (r - suc (leading_boxes v.chain))))
unfolding onward
onward_out sl v r n e i = go (leb r (leading_boxes v.chain)) refl (subst (λ (k : Slot). Among n (onward k r)) e i)
  where
    go : (b : Bool) → leb r (leading_boxes v.chain) ≡ b → Among n (pick b [] (past (places v.borrow) (r - suc (leading_boxes v.chain))))
        → (leading_boxes v.chain < r) × (k : Place) × (Among k (places v.borrow)) × (n ≡ place k.root (k.follows + (r - suc (leading_boxes v.chain))))
    go true f j = absurd j
    go false f j = let k = past_out n (places v.borrow) (r - suc (leading_boxes v.chain)) j in (leb-false _ _ f, k.0, k.1, k.2)

-- Behind the borrow link: the recorded places, with the follows that remain.
pub onward_in : (sl : Slot) (v : Variable) (r : ℕ) (p : Place) → sl ≡ live v → leading_boxes v.chain < r → Among p (places v.borrow)
    → Among (place p.root (p.follows + (r - suc (leading_boxes v.chain)))) (onward sl r)
unfolding onward
onward_in sl v r p e l h =
    subst (λ (k : Slot). Among (place p.root (p.follows + (r - suc (leading_boxes v.chain)))) (onward k r)) (sym e) (go (leb r (leading_boxes v.chain)) refl)
  where
    go : (b : Bool) → leb r (leading_boxes v.chain) ≡ b
        → Among (place p.root (p.follows + (r - suc (leading_boxes v.chain)))) (pick b [] (past (places v.borrow) (r - suc (leading_boxes v.chain))))
    go true k = absurd (let z = leb-true r (leading_boxes v.chain) k in omega arith)
    go false k = past_in p (places v.borrow) (r - suc (leading_boxes v.chain)) h

module _ {nv : ℕ} {Γ : Environment} {level : ℕ} (N : Neat nv Γ level) where
  pub lies_on : (m : List Link) (q n : Place) → Lies Γ m q → Among n (onward (Γ q.root) q.follows) → Lies Γ m n
  lies_on m q n L i =
      let o = onward_out (Γ q.root) L.variable q.follows n L.is i in
      let b = beyond L.variable.chain q.follows o.0 L.long in
      let R = (N.holds q.root L.variable L.is).recorded o.1 o.2 in
      subst (λ (y : Place). Lies Γ m y) (sym o.3) (subst (λ (k : List Link). Lies Γ k (place o.1.root (o.1.follows + (q.follows - suc (leading_boxes L.variable.chain)))))
      (b.0 ∙ L.rest) (lies_past (q.follows - suc (leading_boxes L.variable.chain)) (lies R) b.1))

  all_lie : (f : ℕ) (m : List Link) (p : Place) (ps : List Place) → follow f Γ p [] ≡ some ps → Lies Γ m p → (q : Place) → Among q ps → Lies Γ m q
  all_lie f m p ps h L = met Γ (λ q. Lies Γ m q) (lies_on m) f p [] ps h L (λ k i. absurd i)

  -- What the judge's answer on a place says.
  pub record Led (p : Place) (l : Located) : Type 0 where
    pub is : Γ p.root ≡ live l.root
    pub long : p.follows ≤ length l.root.chain
    pub ends : (q : Place) → Among q l.to → (Lies Γ (drop p.follows l.root.chain) q) × (own_link (Γ q.root) q.follows ≡ true)

  pub led : (i : ℕ) (p : Place) (l : Located) → judge_place nv Γ i p ≡ ok l → Led p l
  unfolding judge_place
  led i p l h =
      let a = then (in_scope (Γ p.root) (31, i)) _ l h in
      let b = then (need (leb p.follows (length a.0.chain)) (32, i)) _ l a.2 in
      let c = then (reached (follow (suc nv) Γ p []) (33, i)) _ l b.2 in
      let d = then (need (every (λ q. own_path (Γ q.root) q.follows) c.0) (33, i)) _ l c.2 in
      let e : record { root = a.0; to = only (λ (q : Place). own_link (Γ q.root) q.follows) c.0 } ≡ l = let z = d.2 in cc in
      let is = scoped _ _ _ a.1 in
      let lo = leb-true p.follows (length a.0.chain) (needed _ _ _ b.1) in
      let all = all_lie (suc nv) (drop p.follows a.0.chain) p c.0 (was_found _ _ _ c.1) (record { variable = a.0; is = is; long = lo; rest = refl }) in
      subst (λ (k : Located). Led p k) e (record {
        is = is;
        long = lo;
        ends = λ q i. let k = only_out (λ (q : Place). own_link (Γ q.root) q.follows) q c.0 i in (all q k.0, k.1);
      })

  -- What the place's ends borrow is recorded for the links that are left.
  pub borrowed_there : (p : Place) (l : Located) → Led p l → (q : Place) → Among q (borrows_at Γ l.to) → Recorded Γ (drop p.follows l.root.chain) level q
  unfolding borrow_of
  borrowed_there p l L q i =
      let g = borrows_out Γ q l.to i in
      let e = L.ends g.0 g.1 in
      let v = e.0.variable in
      let R = (N.holds g.0.root v e.0.is).recorded q (subst (λ (k : Slot). Among q (places (borrow_of k))) e.0.is g.2) in
      let d = own_link_law (Γ g.0.root) v g.0.follows e.0.is e.1 in
      recorded_as (sym (same_behind g.0.follows v.chain d) ∙ ap behind e.0.rest) (N.deep g.0.root v e.0.is) R
