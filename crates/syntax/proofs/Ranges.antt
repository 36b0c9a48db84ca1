-- What a set in its ranges says of each limit, and that the language's own set is one.
use Prim.Native.Nat.{ℕ, ◌+◌, ◌*◌, ◌/◌, ◌%◌, ◌≤◌, ◌<◌}
use native.Mathlib.Omega.{arith}
use mathlib.Core.Path.{◌≡◌, refl, sym, ap, ◌∙◌}
use mathlib.Core.Bool.{true}
use borrow.Author.Tests.{leb-true, le-leb}
use Rattle.syntax.specs.Limits.{Limits, base, in_ranges, unpacked, version_of}
use Rattle.syntax.proofs.HeadSound.{both}

pub record Ranged (l : Limits) : Type 0 where
  pub terms : (1 ≤ l.terms) × (l.terms ≤ 4096)
  pub variables : (1 ≤ l.variables) × (l.variables ≤ 128)
  pub boxes : l.boxes ≤ 128
  pub levels : (1 ≤ l.levels) × (l.levels ≤ 32)

pub ranged : (l : Limits) → in_ranges l ≡ true → Ranged l
unfolding in_ranges
ranged l h =
    let f = both _ _ h in
    let e = both _ _ f.0 in
    let d = both _ _ e.0 in
    let c = both _ _ d.0 in
    let b = both _ _ c.0 in
    let a = both _ _ b.0 in
    record {
      terms = (leb-true _ _ a.0, leb-true _ _ a.1);
      variables = (leb-true _ _ b.1, leb-true _ _ c.1);
      boxes = leb-true _ _ d.1;
      levels = (leb-true _ _ e.1, leb-true _ _ f.1);
    }

pub in_ranges_law : (l : Limits) → Ranged l → in_ranges l ≡ true
unfolding in_ranges
in_ranges_law l r = rw (le-leb 1 l.terms r.terms.0, le-leb l.terms 4096 r.terms.1, le-leb 1 l.variables r.variables.0, le-leb l.variables 128 r.variables.1, le-leb l.boxes 128 r.boxes, le-leb 1 l.levels r.levels.0, le-leb l.levels 32 r.levels.1)

pub base_ranged : in_ranges base ≡ true
unfolding in_ranges base
base_ranged = refl

-- A set in its ranges is the one that its number stands for.
pub packs : (l : Limits) → in_ranges l ≡ true → (p : ℕ) → p ≡ l.terms * 4194304 + l.levels * 65536 + l.boxes * 256 + l.variables → unpacked p ≡ l
packs l h p e =
    let r = ranged l h in
    let w : p / 4194304 ≡ l.terms = omega (arith, r.terms, r.levels, r.boxes, r.variables) in
    let a : p / 4194304 % 8192 ≡ l.terms = rw w (omega (arith, r.terms)) in
    let b : p % 256 ≡ l.variables = omega (arith, r.variables) in
    let x : p / 256 ≡ l.terms * 16384 + l.levels * 256 + l.boxes = omega (arith, r.variables) in
    let c : p / 256 % 256 ≡ l.boxes = rw x (omega (arith, r.boxes)) in
    let y : p / 65536 ≡ l.terms * 64 + l.levels = omega (arith, r.variables, r.boxes) in
    let d : p / 65536 % 64 ≡ l.levels = rw y (omega (arith, r.levels)) in
    λ i. record { terms = a i; variables = b i; boxes = c i; levels = d i }

-- Its number has nothing where a version would stand.
pub packs_below : (l : Limits) → in_ranges l ≡ true → (p : ℕ) → p ≡ l.terms * 4194304 + l.levels * 65536 + l.boxes * 256 + l.variables → p < 34359738368
packs_below l h p e = let r = ranged l h in omega (arith, r.terms, r.levels, r.boxes, r.variables)

-- A number of a high and a low part, divided by a unit that divides the high part's: the quotient and its remainder by a modulus that
-- divides what is left. Stated for each field of a packed set.
above : (q r : ℕ) → ((q * 34359738368 + r) / 4194304 % 8192 ≡ r / 4194304 % 8192) × ((q * 34359738368 + r) % 256 ≡ r % 256)
above q r =
    let a : (q * 34359738368 + r) / 4194304 ≡ q * 8192 + r / 4194304 = omega arith in
    (rw a (omega arith), omega arith)

above_boxes : (q r : ℕ) → (q * 34359738368 + r) / 256 % 256 ≡ r / 256 % 256
above_boxes q r = let a : (q * 34359738368 + r) / 256 ≡ q * 134217728 + r / 256 = omega arith in rw a (omega arith)

above_levels : (q r : ℕ) → (q * 34359738368 + r) / 65536 % 64 ≡ r / 65536 % 64
above_levels q r = let a : (q * 34359738368 + r) / 65536 ≡ q * 524288 + r / 65536 = omega arith in rw a (omega arith)

-- What is above the set in a number leaves the set as it is.
same_set : (q r : ℕ) → unpacked (q * 34359738368 + r) ≡ unpacked r
same_set q r = λ i. record { terms = (above q r).0 i; variables = (above q r).1 i; boxes = above_boxes q r i; levels = above_levels q r i }

pub versions : (s v p : ℕ) → v < 8192 → p ≡ v * 34359738368 + s % 34359738368 → (unpacked p ≡ unpacked s) × (version_of p ≡ v)
versions s v p h e =
    let r = s % 34359738368 in
    let whole : s / 34359738368 * 34359738368 + r ≡ s = omega arith in
    (ap unpacked e ∙ same_set v r ∙ sym (same_set (s / 34359738368) r) ∙ ap unpacked whole, rw e (omega arith))
