-- `syntax::kinds::known` meets its contract. Assumes nothing.
use Prim.Native.Nat.{ℕ, ◌≤◌, ◌<◌}
use native.Mathlib.Omega.{arith}
use mathlib.Core.Path.{◌≡◌, refl, ◌∙◌}
use mathlib.Core.Bool.{Bool, true, false, and-true, and-false}
use mathlib.Core.Logic.{◌⊎◌, ⊎_elim, inl, inr}
use lib.Dec.{leb}
use borrow.Author.Tests.{le-leb, lt-leb, lt-ltb, le-ltb, leb-true, leb-false}
use Rattle.syntax.specs.Parts.{known_in}
use Rattle.syntax.proofs.kinds.known.Goals as goal
use Rattle.syntax.proofs.kinds.known.Goals.{then-version-lt-CHOICE_AND_SUM_SINCE, else-version-lt-CHOICE_AND_SUM_SINCE}

none : (v b : ℕ) → b < 1 → false ≡ known_in v b
unfolding known_in
none v b h = rw (le-leb b 11 (omega arith), le-ltb 0 b (omega arith))

-- The kinds go up to the last one of their version.
up_to : (v b last : ℕ) → ((v < 2) × (last ≡ 11)) ⊎ ((2 ≤ v) × (last ≡ 13)) → 1 ≤ b → leb b last ≡ known_in v b
unfolding known_in
up_to v b last which h = go (leb b 11) refl
  where
    go : (t : Bool) → leb b 11 ≡ t → leb b last ≡ known_in v b
    go true e =
        let low : b ≤ last = ⊎_elim (λ w. omega (arith, leb-true b 11 e, w.1)) (λ w. omega (arith, leb-true b 11 e, w.1)) which in
        rw (e, le-leb b last low, lt-ltb 0 b h)
    go false e = ⊎_elim
        (λ w. rw (e, lt-leb b last (omega (arith, leb-false b 11 e, w.1)), lt-leb 2 v w.0, and-false (leb b 13)))
        (λ w. rw (e, w.1, le-leb 2 v w.0, and-true (leb b 13)))
        which

pub returns-then-kind : goal.returns-then-kind
returns-then-kind c =
    up_to _ _ _
    (elim c.if-version-lt-CHOICE_AND_SUM_SINCE.branch [ then-version-lt-CHOICE_AND_SUM_SINCE w ↦ inl (omega arith, omega arith) | else-version-lt-CHOICE_AND_SUM_SINCE w ↦ inr (omega arith, omega arith) ])
    (omega (arith, c.if-kind.true))

pub returns-else-kind : goal.returns-else-kind
returns-else-kind c = lt-leb _ _ c.if-kind.false ∙ none _ _ (omega (arith, c.if-kind.false))
