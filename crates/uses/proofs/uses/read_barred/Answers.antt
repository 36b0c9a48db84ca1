-- `uses::uses::read_barred` meets its contract. Assumes nothing.
use mathlib.Core.Path.{sym, ◌∙◌}
use Rattle.statics.specs.Bars.{in_use}
use Rattle.variables.specs.Table.{environment_of}
use Rattle.bars.specs.Held.{borrows_by}
use Rattle.bars.specs.declared.bars.Borrows.TheVariants as borrows
use Rattle.uses.proofs.BarredLaws.{nobody_holds}
use Rattle.uses.proofs.uses.read_barred.Goals as goal

pub returns-then-is_empty : goal.returns-then-is_empty
unfolding borrows_by
returns-then-is_empty c =
    let env = c.args.env.now in
    let variables = c.args.script.now.variables in
    λ ns later. sym (nobody_holds env borrows.Exclusive c.args.root _ c.may_bar_reading-may.ensures (sym c.is_empty.ensures ∙ c.if-is_empty.true) (in_use variables ns (environment_of env)) variables)

pub returns : goal.returns
unfolding borrows_by
returns c = c.is_barred.ensures
