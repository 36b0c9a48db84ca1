-- `term_runner::skip::inside` meets its contract. Assumes nothing.
use mathlib.Core.Path.{sym, subst, ◌∙◌}
use Rattle.syntax.specs.Parts.{IsKind}
use Rattle.term_runner.proofs.SkipLaws.{inside_unknown, inside_one, inside_block, inside_choice, inside_none}
use Rattle.term_runner.proofs.skip.inside.Goals as goal

pub returns-in_default : goal.returns-in_default
returns-in_default c = inside_unknown _ _ (λ h. c.in_default.ensures (subst IsKind (sym c.field_at.ensures) h))

pub returns-in-Box : goal.returns-in-Box
returns-in-Box c = inside_one _ _ _ (c.in-Ok.ensures ∙ c.field_at.ensures) c.in-Box.is

pub returns-in-Block : goal.returns-in-Block
returns-in-Block c = c.index_at.ensures ∙ inside_block _ _ _ (c.in-Ok.ensures ∙ c.field_at.ensures) c.in-Block.is

pub returns-in-Choice : goal.returns-in-Choice
returns-in-Choice c = inside_choice _ _ _ (c.in-Ok.ensures ∙ c.field_at.ensures) c.in-Choice.is

pub returns-in_default-kind : goal.returns-in_default-kind
returns-in_default-kind c =
    let d = c.in_default-kind in
    inside_none _ _ _ (c.in-Ok.ensures ∙ c.field_at.ensures) d.not-Box d.not-Let d.not-Assign d.not-Block d.not-Choice
