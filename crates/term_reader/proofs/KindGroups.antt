-- Kinds by what follows their operands: one inner term, blocks, or nothing (LANGUAGE 2.3).
use Prim.Native.Nat.{◌≤◌, ◌<◌}
use native.Mathlib.Omega.{arith}
use mathlib.Core.Path.{◌≡◌, refl}
use mathlib.Core.Logic.{◌⊎◌, ⊎_elim}
use Rattle.syntax.specs.KindNumbers.{number_in}
use Rattle.syntax.specs.declared.kinds.Kind as code
use Rattle.syntax.specs.declared.kinds.Kind.TheVariants as kind

-- Box, let and assign.
pub stands_around : (k : code.Kind) → (k ≡ kind.Box) ⊎ ((k ≡ kind.Let) ⊎ (k ≡ kind.Assign)) → (7 ≤ number_in k) × (number_in k ≤ 9)
stands_around k h = ⊎_elim (λ e. rw e (omega arith, omega arith)) (λ h. ⊎_elim (λ e. rw e (omega arith, omega arith)) (λ e. rw e (omega arith, omega arith)) h) h

-- Neither these nor a block nor a choice.
pub stands_alone : (k : code.Kind) → (k ≡ kind.Box → ⊥) × (k ≡ kind.Let → ⊥) × (k ≡ kind.Assign → ⊥) × (k ≡ kind.Block → ⊥) × (k ≡ kind.Choice → ⊥)
    → (7 ≤ number_in k → 9 < number_in k) × (number_in k ≡ 11 → ⊥) × (number_in k ≡ 12 → ⊥)
stands_alone kind.Number h = (λ y. omega arith, λ e. omega arith, λ e. omega arith)
stands_alone kind.Reading h = (λ y. omega arith, λ e. omega arith, λ e. omega arith)
stands_alone kind.Copy h = (λ y. omega arith, λ e. omega arith, λ e. omega arith)
stands_alone kind.Move h = (λ y. omega arith, λ e. omega arith, λ e. omega arith)
stands_alone kind.Shared h = (λ y. omega arith, λ e. omega arith, λ e. omega arith)
stands_alone kind.Exclusive h = (λ y. omega arith, λ e. omega arith, λ e. omega arith)
stands_alone kind.Box h = absurd (h.0 refl)
stands_alone kind.Let h = absurd (h.1 refl)
stands_alone kind.Assign h = absurd (h.2 refl)
stands_alone kind.Below h = (λ y. omega arith, λ e. omega arith, λ e. omega arith)
stands_alone kind.Block h = absurd (h.3 refl)
stands_alone kind.Choice h = absurd (h.4 refl)
stands_alone kind.Sum h = (λ y. omega arith, λ e. omega arith, λ e. omega arith)
