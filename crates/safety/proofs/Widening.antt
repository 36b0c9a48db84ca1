-- What the judge knows of a variable may stand for more than what is so: for more places, or for more that is moved away.
use Prim.Native.Nat.{suc, ◌≤◌, ◌<◌}
use native.Mathlib.Omega.{arith}
use mathlib.Core.Path.{◌≡◌, refl, sym, ap, ◌∙◌, subst}
use mathlib.Core.List.{List, [], ◌∷◌}
use Rattle.syntax.specs.Script.{Place}
use Rattle.statics.specs.Links.{Link, boxed, shared, exclusive, leading_boxes}
use Rattle.statics.specs.Places.{unite}
use Rattle.statics.specs.Environment.{Borrow, no_borrow, shared_of, exclusive_of, places, borrow_end, Variable, Slot, free, used, live, fresh, wider}
use Rattle.statics.specs.Neat.{Among}
use Rattle.statics.proofs.Slots.{free≢live, used≢live}
use Rattle.statics.proofs.SetLaws.{unite_left, unite_right}
use Rattle.safety.proofs.Memory.{Name}
use Rattle.safety.proofs.Ghost as Gh
use Rattle.safety.proofs.Typing.{Fits}
use Rattle.safety.proofs.Fading.{faded, fade_none, without, without_off, without_on, without_vacant}
use Rattle.safety.proofs.Covering.{BorrowIn, in_none, in_shared, in_exclusive, Covered, covers, covers_free, covers_used, covers_live, vac_covers, live_covers, covers_less}

end_none : (ks : List Link) (ps : List Place) → Fits ks Gh.no_borrow → borrow_end ks ps ≡ no_borrow
unfolding borrow_end
end_none [] ps f = refl
end_none (boxed ∷ ks) ps f = end_none ks ps f
end_none (shared ∷ ks) ps f = absurd f
end_none (exclusive ∷ ks) ps f = absurd f

end_shared : (ks : List Link) (ps : List Place) (p : Place) → Fits ks (Gh.shared_of p) → borrow_end ks ps ≡ shared_of ps
unfolding borrow_end
end_shared [] ps p f = absurd f
end_shared (boxed ∷ ks) ps p f = end_shared ks ps p f
end_shared (shared ∷ ks) ps p f = refl
end_shared (exclusive ∷ ks) ps p f = absurd f

end_exclusive : (ks : List Link) (ps : List Place) (p : Place) → Fits ks (Gh.exclusive_of p) → borrow_end ks ps ≡ exclusive_of ps
unfolding borrow_end
end_exclusive [] ps p f = absurd f
end_exclusive (boxed ∷ ks) ps p f = end_exclusive ks ps p f
end_exclusive (shared ∷ ks) ps p f = absurd f
end_exclusive (exclusive ∷ ks) ps p f = refl

-- A borrow end with more places.
end_in_law : (ks : List Link) {b : Gh.Borrow} {j : Borrow} (ps : List Place) → Fits ks b → BorrowIn b j
    → ((p : Place) → Among p (places j) → Among p ps) → BorrowIn b (borrow_end ks ps)
end_in_law ks ps f in_none h = rw (end_none ks ps f) in_none
end_in_law ks ps f (in_shared p qs i) h = rw (end_shared ks ps p f) (in_shared p ps (h p i))
end_in_law ks ps f (in_exclusive p qs i) h = rw (end_exclusive ks ps p f) (in_exclusive p ps (h p i))

-- v stands for all that u stands for.
pub record Wide (u v : Variable) : Type 0 where
  pub chain : u.chain ≡ v.chain
  pub level : u.level ≡ v.level
  pub less : v.moved_from ≤ u.moved_from
  pub borrow : (b : Gh.Borrow) → Fits v.chain b → BorrowIn b u.borrow → BorrowIn b v.borrow

pub wide_same : (v : Variable) → Wide v v
wide_same v = record { chain = refl; level = refl; less = omega arith; borrow = λ b f h. h }

pub wide_end : (u v : Variable) (ps : List Place) → u.chain ≡ v.chain → u.level ≡ v.level → v.moved_from ≤ u.moved_from
    → v.borrow ≡ borrow_end v.chain ps → ((p : Place) → Among p (places u.borrow) → Among p ps) → Wide u v
wide_end u v ps c l g b h = record { chain = c; level = l; less = g; borrow = λ x f i. subst (λ (y : Borrow). BorrowIn x y) (sym b) (end_in_law v.chain ps f i h) }

-- A variable that a value may be written to, as it was before, and with the value.
pub wide_old : (v : Variable) (b : Borrow) → Wide v (wider v b)
wide_old v b =
    wide_end v (wider v b) (unite (places v.borrow) (places b)) refl refl (omega arith) refl (λ p i. unite_left p (places v.borrow) (places b) i)

pub wide_new : (v : Variable) (b : Borrow) → v.moved_from ≤ suc (leading_boxes v.chain) → Wide (fresh v.chain b v.level) (wider v b)
wide_new v b l =
    wide_end (fresh v.chain b v.level) (wider v b) (unite (places v.borrow) (places b)) refl refl l refl (λ p i. unite_right p (places v.borrow) (places b) i)

-- What covers goes on to cover; a name that the judge counts as moved away must forget its borrow for that.
pub covered_wide : {K : Type 0} {q : Gh.Variable} {u v : Variable} → Covered K q u → Wide u v → Fits q.chain q.borrow
    → leading_boxes v.chain < v.moved_from → Covered K q v
covered_wide {K} {q} {u} {v} c w f g =
    let n : leading_boxes u.chain ≡ leading_boxes v.chain = ap leading_boxes w.chain in
    let l = w.less in
    let k = c.less in
    let m = c.cap in
    record {
      chain = c.chain ∙ w.chain;
      level = c.level ∙ w.level;
      less = omega arith;
      cap = omega arith;
      inside = λ k h. wide (c.inside k (omega arith));
      holds = λ p e h. (g, wide (c.holds p e h).1);
    }
  where
    wide : BorrowIn q.borrow u.borrow → BorrowIn q.borrow v.borrow
    wide b = w.borrow q.borrow (subst (λ (y : List Link). Fits y q.borrow) (c.chain ∙ w.chain) f) b

pub covered_faded : {K : Type 0} {q : Gh.Variable} {u v : Variable} → Covered K q u → Wide u v → v.moved_from ≤ leading_boxes v.chain
    → Covered K (faded q) v
covered_faded {K} {q} {u} {v} c w g =
    let l = w.less in
    let k = c.less in
    record {
      chain = c.chain ∙ w.chain;
      level = c.level ∙ w.level;
      less = omega arith;
      cap = omega arith;
      inside = λ k h. absurd (omega arith);
      holds = λ p f. absurd (fade_none q.borrow p f);
    }

-- Who need not be known may forget what it borrows.
pub without_covers : {K K' : Type 0} (Θ : Name → Gh.Slot) (X : Name → Type 0) (xDec : (z : Name) → Dec (X z)) (z : Name) (sl : Slot) → covers K (Θ z) sl
    → (X z → (q : Gh.Variable) → Θ z ≡ Gh.live q → K' → ⊥) → (K' → K) → covers K' (without Θ X xDec z) sl
without_covers {K} {K'} Θ X xDec z sl c n f = go (xDec z)
  where
    forgets : X z → (g : Gh.Slot) (sl : Slot) → Θ z ≡ g → covers K g sl → covers K' (without Θ X xDec z) sl
    forgets h g sl e covers_free = vac_covers (without Θ X xDec z) free (without_vacant Θ X xDec z e) (λ v k. free≢live k)
    forgets h g sl e covers_used = vac_covers (without Θ X xDec z) used (without_vacant Θ X xDec z e) (λ v k. used≢live k)
    forgets h g sl e (covers_live {q = q} {v = v} k) = live_covers (without Θ X xDec z) (live v) (faded q) v (without_on Θ X xDec z q h e) refl (record {
      chain = k.chain;
      level = k.level;
      less = k.less;
      cap = k.cap;
      inside = λ u. absurd (n h q e u);
      holds = λ p e. absurd (fade_none q.borrow p e);
    })

    go : Dec (X z) → covers K' (without Θ X xDec z) sl
    go (yes h) = forgets h (Θ z) sl refl c
    go (no h) = covers_less (without Θ X xDec z) (Θ z) sl f (without_off Θ X xDec z h) c
