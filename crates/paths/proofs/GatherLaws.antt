-- The roots that the variables of a set record, gathered one variable after the other. Assumes nothing.
use Prim.Native.Nat.{ℕ}
use mathlib.Core.Path.{◌≡◌, refl, sym, ap, ◌∙◌}
use mathlib.Core.Bool.{Bool, true, false, false≢true, true≢false}
use mathlib.Core.List.{List}
use lib.Dec.{eqb}
use borrow.Author.Tests.{eqb-true}
use Rattle.syntax.specs.Result.{pick}
use Rattle.variables.specs.declared.table.Row.{Row}
use Rattle.variables.specs.declared.roots.Roots.{Roots}
use Rattle.variables.specs.Masks.{has}
use Rattle.variables.specs.Table.{roots_at}
use Rattle.paths.specs.Steps.{BorrowedAt}

-- All those of the variables that are not left are in, and nothing else.
pub record Gathering (env : List Row) (to roots left : Roots) : Type 0 where
  pub inside : (y : ℕ) → has left y ≡ true → has to y ≡ true
  pub within : (y x : ℕ) → has to y ≡ true → has left y ≡ false → has (roots_at env y) x ≡ true → has roots x ≡ true
  pub from : (x : ℕ) → has roots x ≡ true → (y : ℕ) × (has to y ≡ true) × (has (roots_at env y) x ≡ true)

module _ (env : List Row) (to : Roots) where
  pub gather_begins : (roots : Roots) → ((x : ℕ) → has roots x ≡ false) → Gathering env to roots to
  gather_begins roots z = record {
    inside = λ y h. h;
    within = λ y x h k l. absurd (true≢false (sym h ∙ k));
    from = λ x h. absurd (true≢false (sym h ∙ z x));
  }

  module _ (roots left : Roots) (G : Gathering env to roots left) where
    pub gather_round : (x : ℕ) → has left x ≡ true → (more roots' left' : Roots) → more ≡ roots_at env x → ((z : ℕ) → has roots' z ≡ pick (has roots z) true (has more z))
        → ((y : ℕ) → has left' y ≡ pick (eqb x y) false (has left y)) → Gathering env to roots' left'
    gather_round x h more roots' left' me re le = record {
      inside = λ y k. G.inside y (still (eqb x y) (has left y) (sym (le y) ∙ k));
      within = λ y z k l g. added y z (eqb x y) refl (has left y) refl k (sym (le y) ∙ l) g;
      from = λ z k. came z (has roots z) refl (sym (re z) ∙ k);
    }
      where
        still : (q b : Bool) → pick q false b ≡ true → b ≡ true
        still true b k = absurd (false≢true k)
        still false b k = k

        either : (a b : Bool) → b ≡ true → pick a true b ≡ true
        either true b k = refl
        either false b k = k

        first : (a b : Bool) → a ≡ true → pick a true b ≡ true
        first true b k = refl
        first false b k = absurd (false≢true k)

        more_is : (z : ℕ) → has more z ≡ has (roots_at env x) z
        more_is z = ap (λ (k : Roots). has k z) me

        added : (y z : ℕ) (q : Bool) → eqb x y ≡ q → (b : Bool) → has left y ≡ b → has to y ≡ true → pick q false b ≡ false → has (roots_at env y) z ≡ true → has roots' z ≡ true
        added y z true q b e k l g = re z ∙ either (has roots z) (has more z) (more_is z ∙ ap (λ (w : ℕ). has (roots_at env w) z) (eqb-true x y q) ∙ g)
        added y z false q b e k l g = re z ∙ first (has roots z) (has more z) (G.within y z k (e ∙ l) g)

        came : (z : ℕ) (b : Bool) → has roots z ≡ b → pick b true (has more z) ≡ true → (y : ℕ) × (has to y ≡ true) × (has (roots_at env y) z ≡ true)
        came z true e k = G.from z e
        came z false e k = (x, G.inside x h, sym (more_is z) ∙ k)

    pub gather_over : ((y : ℕ) → has left y ≡ false) → BorrowedAt env to roots
    gather_over none = record { within = λ y x h k. G.within y x h (none y) k; from = G.from }
