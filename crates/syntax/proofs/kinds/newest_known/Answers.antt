-- `syntax::kinds::newest_known` meets its contract. Assumes nothing.
use Prim.Native.Nat.{ℕ, min}
use native.Mathlib.Omega.{arith}
use mathlib.Core.Path.{◌≡◌, refl, ap}
use mathlib.Core.Bool.{Bool, true, false}
use lib.Dec.{leb}
use borrow.Author.Tests.{leb-true, leb-false}
use Rattle.syntax.specs.Kinds.{knows}
use Rattle.syntax.proofs.Versions.{knows_most}
use Rattle.syntax.proofs.kinds.newest_known.Goals as goal

known_alike : (n m v : ℕ) → m ≡ min n 2 → knows m v ≡ knows n v
known_alike n m v e = go (leb n 2) refl
  where
    go : (x : Bool) → leb n 2 ≡ x → knows m v ≡ knows n v
    go true q =
        let same : m ≡ n = omega (arith, e, leb-true n 2 q) in
        ap (λ (k : ℕ). knows k v) same
    go false q =
        let two : m ≡ 2 = omega (arith, e, leb-false n 2 q) in
        knows_most _ _ v two (omega (arith, leb-false n 2 q))

pub returns : goal.returns
returns c = (omega (arith, c.min.ensures), λ v. known_alike _ _ v c.min.ensures)
