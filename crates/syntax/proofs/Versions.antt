-- The versions that a reader knows, and that the newest version has every kind.
use Prim.Native.Nat.{ℕ, ◌+◌, ◌*◌, ◌/◌, ◌%◌, ◌≤◌, ◌<◌}
use native.Mathlib.Omega.{arith}
use mathlib.Core.Path.{◌≡◌, refl, sym}
use mathlib.Core.Bool.{Bool, true, false, ◌&&◌, and-false}
use mathlib.Core.Option.{Option, none, some}
use lib.Dec.{leb}
use borrow.Author.Tests.{leb-true, le-leb}
use Rattle.syntax.specs.Script.{Term, Terms, last, more}
use Rattle.syntax.specs.Kinds.{newest, knows}
use Rattle.syntax.specs.Measures.{version_in, versions_in, kind_in}
use Rattle.syntax.proofs.KindBytes.{added_most}
use Rattle.syntax.proofs.Parts.{inside, version_inside, counts, All, AllInside, every}
use Rattle.syntax.proofs.HeadSound.{both}

-- The versions that are known.
pub known_says : (n v : ℕ) → knows n v ≡ true → (1 ≤ v) × (v ≤ n) × (v ≤ newest)
unfolding knows
known_says n v h =
    let a = both _ _ h in
    let b = both _ _ a.0 in
    (leb-true _ _ b.0, leb-true _ _ b.1, leb-true _ _ a.1)

pub known_does : (n v : ℕ) → 1 ≤ v → v ≤ n → v ≤ newest → knows n v ≡ true
unfolding knows
known_does n v a b c = rw (le-leb 1 v a, le-leb v n b, le-leb v newest c)

-- A reader that is told a newer version than there is knows those that there are.
pub knows_most : (n m v : ℕ) → n ≡ 2 → 2 < m → knows n v ≡ knows m v
unfolding knows newest
knows_most n m v e h = rw e (go (leb 1 v) (leb v 2) refl)
  where
    go : (a b : Bool) → leb v 2 ≡ b → (a && b && b) ≡ (a && leb v m && b)
    go a true q = rw (le-leb v m (omega (arith, leb-true v 2 q))) refl
    go true false q = sym (and-false (leb v m))
    go false false q = refl

-- There are few of them.
pub few_versions : (n v : ℕ) → knows n v ≡ true → v < 256
unfolding newest
few_versions n v h = omega (arith, (known_says n v h).2)

-- The newest version is one.
pub newest_known : (1 ≤ newest) × (newest ≤ newest)
unfolding newest
newest_known = (omega arith, omega arith)

-- Two bytes of a version that there is are its high and its low byte.
pub small : (a b v : ℕ) → a * 256 + b ≡ v → v ≤ newest → (a ≡ v / 256) × (b ≡ v % 256)
unfolding newest
small a b v e h = (omega arith, omega arith)

-- Every term is of the newest version.
abbrev Known : Term → Type 0
Known t = version_in t ≤ newest

all_known : (ts : Terms) → All Known ts → versions_in ts ≤ newest
unfolding All versions_in
all_known (last t) ih = ih
all_known (more t ts) ih = omega (arith, ih.0, all_known ts ih.1)

inside_known : (o : Option Terms) → AllInside Known o → version_inside o ≤ newest
unfolding AllInside version_inside
inside_known none ih = omega arith
inside_known (some ts) ih = all_known ts ih

pub version_most : (t : Term) → version_in t ≤ newest
version_most = every Known (λ t ih. omega (arith, (counts t).versions, added_most (kind_in t), inside_known (inside t) ih))
