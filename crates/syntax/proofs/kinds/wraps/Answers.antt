-- `syntax::kinds::wraps` meets its contract. Assumes nothing.
use native.Mathlib.Omega.{arith}
use mathlib.Core.Path.{◌≡◌, refl, ◌∙◌, ap}
use mathlib.Core.Bool.{true, false}
use mathlib.Core.Logic.{◌⊎◌, ⊎_elim}
use borrow.Author.Tests.{ne_eqb}
use Rattle.syntax.specs.declared.kinds.Kind.{Kind}
use Rattle.syntax.specs.declared.kinds.Kind.TheVariants as kind
use Rattle.syntax.specs.Kinds.{byte_of, wraps_of}
use Rattle.syntax.specs.KindNumbers.{number_in}
use Rattle.syntax.proofs.kinds.wraps.Goals as goal

alone : (k : Kind) → (k ≡ kind.Box → ⊥) → (k ≡ kind.Let → ⊥) → (k ≡ kind.Assign → ⊥) → false ≡ wraps_of (number_in k)
unfolding wraps_of byte_of
alone kind.Number b l a = refl
alone kind.Reading b l a = refl
alone kind.Copy b l a = refl
alone kind.Move b l a = refl
alone kind.Shared b l a = refl
alone kind.Exclusive b l a = refl
alone kind.Box b l a = absurd (b refl)
alone kind.Let b l a = absurd (l refl)
alone kind.Assign b l a = absurd (a refl)
alone kind.Below b l a = refl
alone kind.Block b l a = refl
alone kind.Choice b l a = refl
alone kind.Sum b l a = refl

around : (k : Kind) → (k ≡ kind.Box) ⊎ ((k ≡ kind.Let) ⊎ (k ≡ kind.Assign)) → true ≡ wraps_of (number_in k)
unfolding wraps_of byte_of
around k h = ⊎_elim (λ e. rw e refl) (⊎_elim (λ e. rw e refl) (λ e. rw e refl)) h

pub returns-in_default : goal.returns-in_default
unfolding wraps_of byte_of
returns-in_default c = rw (
  ne_eqb c.args.kind 7 (λ e. c.in_default.ensures (omega (arith, e), omega (arith, e))),
  ne_eqb c.args.kind 8 (λ e. c.in_default.ensures (omega (arith, e), omega (arith, e))),
  ne_eqb c.args.kind 9 (λ e. c.in_default.ensures (omega (arith, e), omega (arith, e))),
)

pub returns-in-Box : goal.returns-in-Box
returns-in-Box c = around _ c.in-Box.is ∙ ap wraps_of c.in-Ok.ensures

pub returns-in_default-matches : goal.returns-in_default-matches
returns-in_default-matches c = alone _ c.in_default-matches.not-Box c.in_default-matches.not-Let c.in_default-matches.not-Assign ∙ ap wraps_of c.in-Ok.ensures
