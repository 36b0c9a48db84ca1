-- The judge's environment covers the proof's: what holds of the first holds of the second.
use Prim.Native.Nat.{ℕ, suc, ◌≤◌, ◌<◌}
use native.Mathlib.Omega.{arith}
use mathlib.Core.Path.{◌≡◌, refl, sym, ap, subst}
use mathlib.Core.Logic.{◌≢◌}
use mathlib.Core.Bool.{Bool, true, false, false≢true}
use mathlib.Core.Option.{some}
use mathlib.Core.List.{List}
use Rattle.syntax.specs.Script.{Place}
use Rattle.statics.specs.Links.{Link, leading_boxes}
use Rattle.statics.specs.Environment.{Borrow, no_borrow, shared_of, exclusive_of, places, Variable, Slot, free, used, live, fresh, moved_away}
use Rattle.statics.specs.Follow.{is_borrow}
use Rattle.statics.specs.Neat.{Among}
use Rattle.statics.proofs.Slots.{free≢live, used≢live}
use Rattle.statics.proofs.Answers.{none≢some}
use Rattle.safety.proofs.Ghost.{stale, vacant}
use Rattle.safety.proofs.Ghost as Gh
use Rattle.safety.proofs.Typing.{borrowed, is_exclusive, boxes}

-- A borrow of the proof's is one that the judge has recorded.
pub data BorrowIn : Gh.Borrow → Borrow → Type 0 where
  in_none : BorrowIn Gh.no_borrow no_borrow
  in_shared : (p : Place) (ps : List Place) → Among p (places (shared_of ps)) → BorrowIn (Gh.shared_of p) (shared_of ps)
  in_exclusive : (p : Place) (ps : List Place) → Among p (places (exclusive_of ps)) → BorrowIn (Gh.exclusive_of p) (exclusive_of ps)

-- The judge's borrow is exclusive.
abbrev pub exclusive_in : Borrow → Bool
exclusive_in no_borrow = false
exclusive_in (shared_of ps) = false
exclusive_in (exclusive_of ps) = true

pub borrow_among : {b : Gh.Borrow} {j : Borrow} → BorrowIn b j → (p : Place) → borrowed b ≡ some p → Among p (places j)
borrow_among in_none p e = absurd (none≢some e)
borrow_among (in_shared q j h) p e = let z : q ≡ p = cc in subst (λ (k : Place). Among k (places (shared_of j))) z h
borrow_among (in_exclusive q j h) p e = let z : q ≡ p = cc in subst (λ (k : Place). Among k (places (exclusive_of j))) z h

pub borrow_exclusive_law : {b : Gh.Borrow} {j : Borrow} → BorrowIn b j → is_exclusive b ≡ true → exclusive_in j ≡ true
borrow_exclusive_law in_none e = absurd (false≢true e)
borrow_exclusive_law (in_shared q ps h) e = absurd (false≢true e)
borrow_exclusive_law (in_exclusive q ps h) e = refl

pub borrow_some : {b : Gh.Borrow} {j : Borrow} → BorrowIn b j → is_borrow j ≡ true → (p : Place) × (borrowed b ≡ some p)
borrow_some in_none e = absurd (false≢true e)
borrow_some (in_shared q ps h) e = (q, refl)
borrow_some (in_exclusive q ps h) e = (q, refl)

pub borrow_known : {b : Gh.Borrow} {j : Borrow} → BorrowIn b j → b ≡ stale → ⊥
borrow_known in_none e = let z : ◌≡◌ {A = ℕ} 0 1 = cc in omega arith
borrow_known (in_shared q ps h) e = let z : ◌≡◌ {A = ℕ} 0 1 = cc in omega arith
borrow_known (in_exclusive q ps h) e = let z : ◌≡◌ {A = ℕ} 0 1 = cc in omega arith

-- The judge knows the chain and the level, may count more as moved away, and knows what is held. Of a name that is known (K), and of
-- which the judge counts nothing as moved away, the proof knows the borrow.
pub record Covered (K : Type 0) (q : Gh.Variable) (v : Variable) : Type 0 where
  pub chain : q.chain ≡ v.chain
  pub level : q.level ≡ v.level
  pub less : v.moved_from ≤ q.moved_from
  pub cap : v.moved_from ≤ suc (leading_boxes v.chain)
  pub inside : K → leading_boxes v.chain < v.moved_from → BorrowIn q.borrow v.borrow
  pub holds : (p : Place) → borrowed q.borrow ≡ some p → boxes q < q.moved_from
      → (leading_boxes v.chain < v.moved_from) × (BorrowIn q.borrow v.borrow)

-- A name in scope is in scope for both.
pub data covers (K : Type 0) : Gh.Slot → Slot → Type 0 where
  covers_free : covers K vacant free
  covers_used : covers K vacant used
  covers_live : {q : Gh.Variable} {v : Variable} → Covered K q v → covers K (Gh.live q) (live v)

pub vacant≢live : {q : Gh.Variable} → vacant ≡ Gh.live q → ⊥
vacant≢live e = let z : ◌≡◌ {A = ℕ} 0 1 = cc in omega arith

-- ---- a slot that covers, and the one that it covers

pub covered_live : {K : Type 0} (g : Gh.Slot) (sl : Slot) (v : Variable) → covers K g sl → sl ≡ live v → (q : Gh.Variable) × (g ≡ Gh.live q) × (Covered K q v)
covered_live g sl v covers_free e = absurd (free≢live e)
covered_live g sl v covers_used e = absurd (used≢live e)
covered_live {K} g sl v (covers_live {q = q} {v = u} c) e = let z : u ≡ v = cc in (q, refl, subst (λ (k : Variable). Covered K q k) z c)

pub covered_back : {K : Type 0} (g : Gh.Slot) (sl : Slot) (q : Gh.Variable) → covers K g sl → g ≡ Gh.live q → (v : Variable) × (sl ≡ live v) × (Covered K q v)
covered_back g sl q covers_free e = absurd (vacant≢live e)
covered_back g sl q covers_used e = absurd (vacant≢live e)
covered_back {K} g sl q (covers_live {q = k} {v = v} c) e = let z : k ≡ q = cc in (v, refl, subst (λ (y : Gh.Variable). Covered K y v) z c)

pub covered_none : {K : Type 0} (g : Gh.Slot) (sl : Slot) → covers K g sl → ((v : Variable) → sl ≢ live v) → g ≡ vacant
covered_none g sl covers_free h = refl
covered_none g sl covers_used h = refl
covered_none g sl (covers_live {v = v} c) h = absurd (h v refl)

pub vac_covers : {K : Type 0} (g : Gh.Slot) (sl : Slot) → g ≡ vacant → ((v : Variable) → sl ≢ live v) → covers K g sl
vac_covers {K} g free e h = rw e covers_free
vac_covers {K} g used e h = rw e covers_used
vac_covers {K} g (live v) e h = absurd (h v refl)

pub live_covers : {K : Type 0} (g : Gh.Slot) (sl : Slot) (q : Gh.Variable) (v : Variable) → g ≡ Gh.live q → sl ≡ live v → Covered K q v → covers K g sl
live_covers g sl q v e f c = rw (e, f) (covers_live c)

-- Less need be known.
pub covered_less : {K K' : Type 0} {q : Gh.Variable} {v : Variable} → (K' → K) → Covered K q v → Covered K' q v
covered_less f c = record { chain = c.chain; level = c.level; less = c.less; cap = c.cap; inside = λ k. c.inside (f k); holds = c.holds }

pub covers_less : {K K' : Type 0} (g' g : Gh.Slot) (sl : Slot) → (K' → K) → g' ≡ g → covers K g sl → covers K' g' sl
covers_less {K} {K'} g' g sl f e c = subst (λ (k : Gh.Slot). covers K' k sl) (sym e) (go c)
  where
    go : {g : Gh.Slot} {sl : Slot} → covers K g sl → covers K' g sl
    go covers_free = covers_free
    go covers_used = covers_used
    go (covers_live c) = covers_live (covered_less f c)

pub covered_whole : {K : Type 0} {q : Gh.Variable} {v : Variable} → Covered K q v → leading_boxes v.chain < v.moved_from → boxes q < q.moved_from
covered_whole {K} {q} {v} c h = let n : boxes q ≡ leading_boxes v.chain = ap leading_boxes c.chain in let l = c.less in omega arith

pub covered_fresh : {K : Type 0} {ks ks' : List Link} {b : Gh.Borrow} {j : Borrow} {l l' : ℕ} → ks ≡ ks' → l ≡ l' → BorrowIn b j
    → Covered K (Gh.fresh ks b l) (fresh ks' j l')
covered_fresh {K} {ks} {ks'} e k h = record {
  chain = e;
  level = k;
  less = (let z : leading_boxes ks ≡ leading_boxes ks' = ap leading_boxes e in omega arith);
  cap = omega arith;
  inside = λ u g. h;
  holds = λ p f g. (omega arith, h);
}

pub covered_moved : {K K' : Type 0} {q : Gh.Variable} {v : Variable} (r : ℕ) → Covered K q v → r ≤ leading_boxes v.chain
    → Covered K' (Gh.moved_away q r) (moved_away v r)
covered_moved {K} {K'} {q} {v} r c h = record {
  chain = c.chain;
  level = c.level;
  less = omega arith;
  cap = omega arith;
  inside = λ u g. absurd (omega arith);
  holds = λ p e k. absurd (let n : boxes q ≡ leading_boxes v.chain = ap leading_boxes c.chain in omega arith);
}
