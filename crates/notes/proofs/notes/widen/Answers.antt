-- `notes::notes::widen` meets its contract. Assumes nothing.
use native.Mathlib.Omega.{arith}
use mathlib.Core.Path.{refl}
use Rattle.statics.specs.Environment.{Slot, widened}
use Rattle.variables.specs.Chains.{chain_of}
use Rattle.variables.specs.Table.{links_at, end_in}
use Rattle.variables.proofs.EntryLaws.{slot_live}
use Rattle.notes.proofs.StateLaws.{changed_fits, not_changed, widened_by}
use Rattle.notes.proofs.notes.widen.Goals as goal

pub returns-in_default : goal.returns-in_default
returns-in_default c =
    let env = c.args.env.now in
    not_changed env c.args.variables c.args.x c.requires.0 c.load.result c.load.ensures c.in_default.not-Live
    (λ (z : Slot). widened z (end_in env (chain_of (links_at env c.args.x)) c.args.roots)) refl refl

pub store-requires : goal.store-requires
store-requires c =
    (omega (arith, c.requires.0.0), c.requires.1, c.requires.0.1, changed_fits _ _ _ _ c.changed_state-wider.ensures)

pub returns : goal.returns
returns c =
    let state = (slot_live _ _ _ c.load.ensures _ c.in-Live.is).1 in
    widened_by c.args.env.now c.args.variables c.args.x c.requires.0 c.requires.1 _ _ state _ _ c.changed_state-wider.ensures c.store.new.env c.store.auto.env c.store.ensures
    c.end_roots.result c.args.roots c.end_roots.ensures c.unite-all.ensures refl
