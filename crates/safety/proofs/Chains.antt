-- Chains of links: their boxes, their borrow ends, and parts of them.
use Prim.Native.Nat.{ℕ, zero, suc, ◌+◌, ◌≤◌, ◌<◌}
use native.Mathlib.Omega.{arith}
use native.Mathlib.Nat.{zero-add, suc-add}
use mathlib.Core.Path.{◌≡◌, refl}
use mathlib.Core.Bool.{true, false≢true}
use mathlib.Core.Option.{some}
use mathlib.Core.List.{List, [], ◌∷◌}
use lib.ListN.{take, drop}
use Rattle.syntax.specs.Script.{Place}
use Rattle.statics.specs.Links.{Link, boxed, shared, exclusive, leading_boxes, no_shared}
use Rattle.statics.proofs.Answers.{none≢some}
use Rattle.safety.proofs.Ghost.{Borrow, no_borrow, stale, shared_of, exclusive_of}
use Rattle.safety.proofs.Typing.{borrowed, is_exclusive, Fits}

pub fits_up : (d : ℕ) (ks : List Link) (b : Borrow) → d ≤ leading_boxes ks → Fits (drop d ks) b → Fits ks b
unfolding leading_boxes
fits_up zero ks b h f = f
fits_up (suc d) [] b h f = f
fits_up (suc d) (boxed ∷ ks) b h f = fits_up d ks b (omega arith) f
fits_up (suc d) (shared ∷ ks) b h f = absurd (omega arith)
fits_up (suc d) (exclusive ∷ ks) b h f = absurd (omega arith)

pub fits_down : (d : ℕ) (ks : List Link) (b : Borrow) → d ≤ leading_boxes ks → Fits ks b → Fits (drop d ks) b
unfolding leading_boxes
fits_down zero ks b h f = f
fits_down (suc d) [] b h f = f
fits_down (suc d) (boxed ∷ ks) b h f = fits_down d ks b (omega arith) f
fits_down (suc d) (shared ∷ ks) b h f = absurd (omega arith)
fits_down (suc d) (exclusive ∷ ks) b h f = absurd (omega arith)

-- A borrow link passed that is not shared is exclusive.
pub exclusive_passed : (ks : List Link) (b : Borrow) (p : Place) (r : ℕ) → Fits ks b → borrowed b ≡ some p → leading_boxes ks < r
    → no_shared (take r ks) ≡ true → is_exclusive b ≡ true
unfolding leading_boxes no_shared
exclusive_passed ks b p zero f q h n = absurd (omega arith)
exclusive_passed [] no_borrow p (suc r) f q h n = absurd (none≢some q)
exclusive_passed [] stale p (suc r) f q h n = absurd (none≢some q)
exclusive_passed [] (shared_of x) p (suc r) f q h n = absurd f
exclusive_passed [] (exclusive_of x) p (suc r) f q h n = absurd f
exclusive_passed (boxed ∷ ks) b p (suc r) f q h n = exclusive_passed ks b p r f q (omega arith) n
exclusive_passed (shared ∷ ks) b p (suc r) f q h n = absurd (false≢true n)
exclusive_passed (exclusive ∷ ks) no_borrow p (suc r) f q h n = absurd f
exclusive_passed (exclusive ∷ ks) stale p (suc r) f q h n = absurd (none≢some q)
exclusive_passed (exclusive ∷ ks) (shared_of x) p (suc r) f q h n = absurd f
exclusive_passed (exclusive ∷ ks) (exclusive_of x) p (suc r) f q h n = refl

pub pure_rest : (a b : ℕ) (ks : List Link) → no_shared (take (a + b) ks) ≡ true → no_shared (take b (drop a ks)) ≡ true
unfolding no_shared
pure_rest zero b ks h = rw zero-add at h
pure_rest (suc a) zero [] h = refl
pure_rest (suc a) (suc b) [] h = refl
pure_rest (suc a) b (boxed ∷ ks) h = pure_rest a b ks (rw suc-add at h)
pure_rest (suc a) b (shared ∷ ks) h = absurd (false≢true (rw suc-add at h))
pure_rest (suc a) b (exclusive ∷ ks) h = pure_rest a b ks (rw suc-add at h)

pub pure_both : (a b : ℕ) (ks : List Link) → no_shared (take a ks) ≡ true → no_shared (take b (drop a ks)) ≡ true → no_shared (take (a + b) ks) ≡ true
unfolding no_shared
pure_both zero b ks h g = rw zero-add g
pure_both (suc a) b [] h g = rw suc-add refl
pure_both (suc a) b (boxed ∷ ks) h g = rw suc-add (pure_both a b ks h g)
pure_both (suc a) b (shared ∷ ks) h g = absurd (false≢true h)
pure_both (suc a) b (exclusive ∷ ks) h g = rw suc-add (pure_both a b ks h g)

pub fits_nil : (b : Borrow) → Fits [] b → b ≡ no_borrow
fits_nil no_borrow f = refl
fits_nil stale f = absurd f
fits_nil (shared_of p) f = absurd f
fits_nil (exclusive_of p) f = absurd f

pub fits_shared : (ks : List Link) (b : Borrow) → Fits (shared ∷ ks) b → (b ≡ stale → ⊥) → (p : Place) × (b ≡ shared_of p)
fits_shared ks no_borrow f n = absurd f
fits_shared ks stale f n = absurd (n refl)
fits_shared ks (shared_of p) f n = (p, refl)
fits_shared ks (exclusive_of p) f n = absurd f
