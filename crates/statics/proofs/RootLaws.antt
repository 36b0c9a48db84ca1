-- In a neat state a recorded set has one place for each root, and is given back by its roots, in order.
use Prim.Native.Nat.{ℕ, zero, suc, ◌+◌, ◌-◌, ◌≤◌, ◌<◌}
use native.Mathlib.Omega.{arith}
use native.Mathlib.Decide.{ℕ_discrete}
use mathlib.Core.Path.{◌≡◌, refl, sym, ap, ap₂, ◌∙◌}
use mathlib.Core.Logic.{◌≢◌, ◌⊎◌, inl, inr}
use mathlib.Core.Bool.{Bool, true, false, false≢true}
use mathlib.Core.List.{List, [], ◌∷◌}
use lib.ListN.{length}
use borrow.Author.Tests.{ne_eqb}
use Rattle.syntax.specs.Result.{pick}
use Rattle.syntax.specs.Script.{Place}
use Rattle.statics.specs.Links.{Link}
use Rattle.statics.specs.Places.{some_of, only, rooted}
use Rattle.statics.specs.Environment.{Borrow, places, borrow_end, Slot, free, used, live, Environment}
use Rattle.statics.specs.Neat.{place, Among, Ordered, Distinct, behind, Holds, Neat}
use Rattle.statics.specs.Roots.{links_of, lengths, place_at, kept, places_from, places_of, left, entry_of, links_in, slot_of, environment_of}
use Rattle.statics.proofs.Answers.{same_bool}
use Rattle.statics.proofs.SetLaws.{rooted_in, rooted_out}
use Rattle.statics.proofs.SetOrder.{before_is}
use Rattle.statics.proofs.NeatPaths.{Lies, follows_is, one_each, lies}

-- ---- either of two tests

abbrev pub or : Bool → Bool → Bool
or a b = pick a true b

pub or_true : (a b : Bool) → or a b ≡ true → (a ≡ true) ⊎ (b ≡ true)
or_true true b h = inl refl
or_true false b h = inr h

pub or_right : (a b : Bool) → b ≡ true → or a b ≡ true
or_right true b h = refl
or_right false b h = h

pub or_left : (a b : Bool) → a ≡ true → or a b ≡ true
or_left a b h = rw h refl

-- ---- the places of a set of roots

-- Only the numbers asked for count, and only the lengths of those in the set.
from_same : (f g : ℕ → Bool) (long long' : ℕ → ℕ) (m x n : ℕ) → ((y : ℕ) → x ≤ y → f y ≡ g y) → ((y : ℕ) → x ≤ y → g y ≡ true → long y ≡ long' y)
    → places_from f long m x n ≡ places_from g long' m x n
unfolding places_from
from_same f g long long' m x zero h k = refl
from_same f g long long' m x (suc n) h k =
    ap₂ (λ (b : Bool) (ps : List Place). kept b (place_at long m x) ps) (h x (omega arith)) (from_same f g long long' m (suc x) n (λ y l. h y (omega arith)) (λ y l. k y (omega arith)))
    ∙ go (g x) (k x (omega arith)) (places_from g long' m (suc x) n)
  where
    go : (b : Bool) → (b ≡ true → long x ≡ long' x) → (ps : List Place) → kept b (place_at long m x) ps ≡ kept b (place_at long' m x) ps
    go true e ps = ap (λ (r : ℕ). place x (r - m) ∷ ps) (e refl)
    go false e ps = refl

pub same_roots : (nv : ℕ) (f g : ℕ → Bool) (long long' : ℕ → ℕ) (m : ℕ) → ((y : ℕ) → f y ≡ g y) → ((y : ℕ) → g y ≡ true → long y ≡ long' y) → places_of nv f long m ≡ places_of nv g long' m
unfolding places_of
same_roots nv f g long long' m h k = from_same f g long long' m 0 nv (λ y l. h y) (λ y l. k y)

from_none : (f : ℕ → Bool) (long : ℕ → ℕ) (m x n : ℕ) → ((y : ℕ) → f y ≡ false) → places_from f long m x n ≡ []
unfolding places_from
from_none f long m x zero h = refl
from_none f long m x (suc n) h = ap (λ (b : Bool). kept b (place_at long m x) (places_from f long m (suc x) n)) (h x) ∙ from_none f long m (suc x) n h

rooted_head : (p : Place) (ps : List Place) → rooted (p ∷ ps) p.root ≡ true
rooted_head p ps = rooted_in p (p ∷ ps) (inl refl)

rooted_tail : (p : Place) (ps : List Place) (x : ℕ) → p.root ≢ x → rooted (p ∷ ps) x ≡ rooted ps x
unfolding rooted some_of
rooted_tail p ps x n = rw (ne_eqb p.root x n) refl

rooted_nil : (x : ℕ) → rooted [] x ≡ false
unfolding rooted some_of
rooted_nil x = refl

-- ---- what is among them

module _ (f : ℕ → Bool) (long : ℕ → ℕ) (m : ℕ) where
  pub from_out : (x n : ℕ) (q : Place) → Among q (places_from f long m x n) → (x ≤ q.root) × (q.root < x + n) × (f q.root ≡ true) × (q ≡ place_at long m q.root)
  unfolding places_from
  from_out x zero q i = absurd i
  from_out x (suc n) q i = go (f x) refl (λ j. from_out (suc x) n q j) i
    where
      go : (b : Bool) → f x ≡ b → (Among q (places_from f long m (suc x) n) → (suc x ≤ q.root) × (q.root < suc x + n) × (f q.root ≡ true) × (q ≡ place_at long m q.root))
          → Among q (kept b (place_at long m x) (places_from f long m (suc x) n)) → (x ≤ q.root) × (q.root < x + suc n) × (f q.root ≡ true) × (q ≡ place_at long m q.root)
      go true e ih (inl j) =
          let z : q.root ≡ x = ap (λ (y : Place). y.root) j in
          (omega arith, omega arith, ap f z ∙ e, j ∙ ap (place_at long m) (sym z))
      go true e ih (inr j) = let k = ih j in (omega (arith, k.0), omega (arith, k.1), k.2, k.3)
      go false e ih j = let k = ih j in (omega (arith, k.0), omega (arith, k.1), k.2, k.3)

  pub from_in : (x n y : ℕ) → x ≤ y → y < x + n → f y ≡ true → Among (place_at long m y) (places_from f long m x n)
  unfolding places_from
  from_in x zero y a b e = absurd (omega arith)
  from_in x (suc n) y a b e = go (ℕ_discrete y x) (λ j k. from_in (suc x) n y j k e)
    where
      here : (c : Bool) → c ≡ true → y ≡ x → Among (place_at long m y) (kept c (place_at long m x) (places_from f long m (suc x) n))
      here true g q = inl (ap (place_at long m) q)
      here false g q = absurd (false≢true g)

      there : (c : Bool) → Among (place_at long m y) (places_from f long m (suc x) n) → Among (place_at long m y) (kept c (place_at long m x) (places_from f long m (suc x) n))
      there true i = inr i
      there false i = i

      go : Dec (y ≡ x) → (suc x ≤ y → y < suc x + n → Among (place_at long m y) (places_from f long m (suc x) n)) → Among (place_at long m y) (kept (f x) (place_at long m x) (places_from f long m (suc x) n))
      go (yes q) ih = here (f x) (ap f (sym q) ∙ e) q
      go (no q) ih = there (f x) (ih (omega arith) (omega arith))

  pub from_once : (x n : ℕ) → Distinct (places_from f long m x n)
  unfolding places_from
  from_once x zero = tt
  from_once x (suc n) = go (f x) (from_once (suc x) n)
    where
      go : (b : Bool) → Distinct (places_from f long m (suc x) n) → Distinct (kept b (place_at long m x) (places_from f long m (suc x) n))
      go true ih = (λ i. let k = from_out (suc x) n (place_at long m x) i in omega (arith, k.0), ih)
      go false ih = ih

  -- Those that pass a test are the places of the roots that pass it.
  pub from_only : (g : Place → Bool) (x n : ℕ) → only g (places_from f long m x n) ≡ places_from (λ y. pick (f y) (g (place_at long m y)) false) long m x n
  unfolding places_from only
  from_only g x zero = refl
  from_only g x (suc n) = go (f x) (g (place_at long m x)) refl (from_only g (suc x) n)
    where
      go : (b c : Bool) → g (place_at long m x) ≡ c → only g (places_from f long m (suc x) n) ≡ places_from (λ y. pick (f y) (g (place_at long m y)) false) long m (suc x) n
          → only g (kept b (place_at long m x) (places_from f long m (suc x) n)) ≡ kept (pick b c false) (place_at long m x) (places_from (λ y. pick (f y) (g (place_at long m y)) false) long m (suc x) n)
      go true true e ih = ap (λ (d : Bool). pick d (place_at long m x ∷ only g (places_from f long m (suc x) n)) (only g (places_from f long m (suc x) n))) e ∙ ap (λ (k : List Place). place_at long m x ∷ k) ih
      go true false e ih = ap (λ (d : Bool). pick d (place_at long m x ∷ only g (places_from f long m (suc x) n)) (only g (places_from f long m (suc x) n))) e ∙ ih
      go false c e ih = ih

  -- The roots of the places are the set again.
  pub rooted_places : (nv x : ℕ) → (f x ≡ true → x < nv) → rooted (places_of nv f long m) x ≡ f x
  unfolding places_of
  rooted_places nv x l = same_bool (rooted (places_from f long m 0 nv) x) (f x)
      (λ h. let k = rooted_out (places_from f long m 0 nv) x h in ap f (sym k.2) ∙ (from_out 0 nv k.0 k.1).2)
      (λ h. rooted_in (place_at long m x) (places_from f long m 0 nv) (from_in 0 nv x (omega arith) (let z = l h in omega arith) h))

-- ---- a set given back

-- Roots going up.
abbrev Rising : List Place → Type 0
Rising [] = Unit {0}
Rising (p ∷ ps) = ((q : Place) → Among q ps → p.root < q.root) × Rising ps

given_back : (long : ℕ → ℕ) (m : ℕ) (ps : List Place) (x n : ℕ) → Rising ps → ((q : Place) → Among q ps → (x ≤ q.root) × (q.root < x + n) × (q ≡ place_at long m q.root))
    → ps ≡ places_from (rooted ps) long m x n
unfolding places_from
given_back long m [] x n r h = sym (from_none (rooted []) long m x n rooted_nil)
given_back long m (p ∷ ps) x zero r h = absurd (let k = h p (inl refl) in omega (arith, k.0, k.1))
given_back long m (p ∷ ps) x (suc n) r h =
    go (λ k. given_back long m ps (suc x) n r.1 k) (λ k. given_back long m (p ∷ ps) (suc x) n r k) (ℕ_discrete p.root x)
  where
    above : p.root ≢ x → (q : Place) → Among q (p ∷ ps) → x < q.root
    above e q (inl j) = let z : q.root ≡ p.root = ap (λ (y : Place). y.root) j in let k = (h p (inl refl)).0 in omega arith
    above e q (inr j) = let z = r.0 q j in let k = (h p (inl refl)).0 in omega arith

    not_rooted : (b : Bool) → rooted (p ∷ ps) x ≡ b → ((q : Place) → Among q (p ∷ ps) → x < q.root) → b ≡ false
    not_rooted true e h = absurd (let k = rooted_out (p ∷ ps) x e in let z = h k.0 k.1 in let y = k.2 in omega arith)
    not_rooted false e h = refl

    go : (((q : Place) → Among q ps → (suc x ≤ q.root) × (q.root < suc x + n) × (q ≡ place_at long m q.root)) → ps ≡ places_from (rooted ps) long m (suc x) n)
        → (((q : Place) → Among q (p ∷ ps) → (suc x ≤ q.root) × (q.root < suc x + n) × (q ≡ place_at long m q.root)) → p ∷ ps ≡ places_from (rooted (p ∷ ps)) long m (suc x) n)
        → Dec (p.root ≡ x) → p ∷ ps ≡ kept (rooted (p ∷ ps) x) (place_at long m x) (places_from (rooted (p ∷ ps)) long m (suc x) n)
    go ih jh (yes e) =
        let t : rooted (p ∷ ps) x ≡ true = ap (rooted (p ∷ ps)) (sym e) ∙ rooted_head p ps in
        let a = ih (λ q i. let k = h q (inr i) in let z = r.0 q i in (omega (arith, e), omega (arith, k.1), k.2)) in
        let b = from_same (rooted (p ∷ ps)) (rooted ps) long long m (suc x) n (λ y k. rooted_tail p ps y (λ q. omega arith)) (λ y k e. refl) in
        let c : p ≡ place_at long m x = (h p (inl refl)).2 ∙ ap (place_at long m) e in
        ap₂ (λ (y : Place) (k : List Place). y ∷ k) c (a ∙ sym b) ∙ ap (λ (y : Bool). kept y (place_at long m x) (places_from (rooted (p ∷ ps)) long m (suc x) n)) (sym t)
    go ih jh (no e) =
        let f : rooted (p ∷ ps) x ≡ false = not_rooted (rooted (p ∷ ps) x) refl (above e) in
        jh (λ q i. let k = h q i in let z = above e q i in (omega arith, omega (arith, k.1), k.2)) ∙ ap (λ (y : Bool). kept y (place_at long m x) (places_from (rooted (p ∷ ps)) long m (suc x) n)) (sym f)

-- ---- in a neat state

module _ {nv : ℕ} {Γ : Environment} {level : ℕ} (N : Neat nv Γ level) where
  module _ (m : List Link) where
    -- Places with the same links left, in order: roots go up.
    rising : (ps : List Place) → Ordered ps → ((q : Place) → Among q ps → Lies Γ m q) → Rising ps
    rising [] o h = tt
    rising (p ∷ ps) o h = (λ q i. go q i (before_is p q (o.0 q i)), rising ps o.1 (λ q i. h q (inr i)))
      where
        go : (q : Place) → Among q ps → (p.root < q.root) ⊎ ((p.root ≡ q.root) × (p.follows < q.follows)) → p.root < q.root
        go q i (inl k) = k
        go q i (inr k) =
            let z : p ≡ q = one_each p q (h p (inl refl)) (h q (inr i)) k.0 in
            let y : p.follows ≡ q.follows = ap (λ (y : Place). y.follows) z in
            absurd (omega (arith, k.1))

    pub lies_at : (q : Place) → Lies Γ m q → q ≡ place_at (lengths Γ) (length m) q.root
    unfolding links_of
    lies_at q L = ap (place q.root) (follows_is L ∙ ap (λ (sl : Slot). links_of sl - length m) (sym L.is))

    set_by_roots : (ps : List Place) → Ordered ps → ((q : Place) → Among q ps → Lies Γ m q) → ps ≡ places_of nv (rooted ps) (lengths Γ) (length m)
    unfolding places_of
    set_by_roots ps o h = given_back (lengths Γ) (length m) ps 0 nv (rising ps o h) (λ q i. let L = h q i in (omega arith, (let z = N.low q.root L.variable L.is in omega arith), lies_at q L))

  -- What something with these links holds.
  module _ (ks : List Link) (l : ℕ) (b : Borrow) (H : Holds Γ ks l b) where
    -- One place for each root.
    pub one_per_root : (p q : Place) → Among p (places b) → Among q (places b) → p.root ≡ q.root → p ≡ q
    one_per_root p q i j e = one_each p q (lies (H.recorded p i)) (lies (H.recorded q j)) e

    -- Its list of places is that of its roots, and its borrow end that of its links with them.
    pub places_by_roots : places b ≡ places_of nv (rooted (places b)) (lengths Γ) (left ks)
    places_by_roots = set_by_roots (behind ks) (places b) H.ordered (λ q i. lies (H.recorded q i))

    borrow_by_roots : b ≡ borrow_end ks (places_of nv (rooted (places b)) (lengths Γ) (left ks))
    borrow_by_roots = H.end ∙ ap (borrow_end ks) places_by_roots

  -- Entries with sets of roots say the whole environment.
  pub kept_by_roots : (x : ℕ) → environment_of nv (λ y. entry_of (Γ y)) x ≡ Γ x
  unfolding environment_of links_in links_of
  kept_by_roots x = go (Γ x) refl
    where
      same_length : (sl : Slot) → links_in (entry_of sl) ≡ links_of sl
      same_length free = refl
      same_length used = refl
      same_length (live v) = refl

      go : (sl : Slot) → Γ x ≡ sl → slot_of nv (λ y. links_in (entry_of (Γ y))) (entry_of sl) ≡ sl
      go free e = refl
      go used e = refl
      go (live v) e =
          let a = same_roots nv (rooted (places v.borrow)) (rooted (places v.borrow)) (λ y. links_in (entry_of (Γ y))) (lengths Γ) (left v.chain) (λ y. refl) (λ y h. same_length (Γ y)) in
          let b : borrow_end v.chain (places_of nv (rooted (places v.borrow)) (λ y. links_in (entry_of (Γ y))) (left v.chain)) ≡ v.borrow =
          ap (borrow_end v.chain) a ∙ sym (borrow_by_roots v.chain v.level v.borrow (N.holds x v e)) in
          ap (λ (k : Borrow). live (record { chain = v.chain; moved_from = v.moved_from; borrow = k; level = v.level })) b
