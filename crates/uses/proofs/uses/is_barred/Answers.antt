-- `uses::uses::is_barred` meets its contract. Assumes nothing.
use Rattle.uses.specs.RowUses.{named_around}
use Rattle.uses.proofs.BarredLaws.{later_has}
use Rattle.uses.proofs.uses.is_barred.Goals as goal

pub is_held-requires : goal.is_held-requires
is_held-requires c =
    let p = c.requires in
    (p.1, p.3, p.4, p.2)

pub returns : goal.returns
returns c =
    λ ns later. c.is_held.ensures ns (later_has _ c.args.script.now.uses.now c.args.from _ (named_around c.args.script.now c.args.around.now) ns c.all_named.ensures later)
