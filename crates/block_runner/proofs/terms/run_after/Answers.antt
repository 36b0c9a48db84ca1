-- `block_runner::terms::run_after` meets its contract. Assumes nothing.
use Rattle.syntax.specs.Parts.{IsKind}
use Rattle.block_runner.proofs.WrapLaws.{wraps_known, wraps_only}
use mathlib.Core.Path.{sym, subst, ◌∙◌}
use Rattle.block_runner.proofs.terms.run_after.Goals as goal

pub unreachable-requires : goal.unreachable-requires
unreachable-requires c = wraps_known c.args.script.now.rows.now c.args.i c.requires.wraps (λ h. c.in_default.ensures (subst IsKind (sym c.field_at.ensures) h))

pub unreachable-requires-in_default-kind : goal.unreachable-requires-in_default-kind
unreachable-requires-in_default-kind c = let d = c.in_default-kind in wraps_only c.args.script.now.rows.now c.args.i _ (c.in-Ok.ensures ∙ c.field_at.ensures) c.requires.wraps d.not-Box d.not-Let d.not-Assign
