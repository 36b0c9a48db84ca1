-- `choices::choice::exchange_one` meets its contract. Assumes nothing.
use native.Mathlib.Omega.{arith}
use mathlib.Core.Path.{sym, ap, ◌∙◌}
use Rattle.variables.specs.Table.{changed_state}
use Rattle.choices.specs.declared.choice.KeptState.{KeptState}
use Rattle.notes.proofs.StateLaws.{changed_fits}
use Rattle.choices.proofs.RowLaws.{same_kept, exchanged_same, exchanged_dead, exchanged_put}
use Rattle.choices.proofs.choice.exchange_one.Goals as goal

pub returns-then-eq : goal.returns-then-eq
returns-then-eq c = exchanged_same _ _ _ c.requires.0 _ _ c.kept_now-now.ensures (same_kept _ _ (sym c.eq.ensures ∙ c.if-eq.true))

pub returns-in_default : goal.returns-in_default
returns-in_default c = exchanged_dead _ _ _ c.requires.0 _ _ c.kept_now-now.ensures _ c.load.ensures c.in_default.not-Live

pub store-requires : goal.store-requires
store-requires c =
    (omega (arith, c.requires.0.0), c.requires.1, c.requires.0.1, changed_fits _ _ _ _ c.changed_state-restored.ensures)

pub returns : goal.returns
returns c =
    let now = c.replace-before.ensures.after ∙ c.kept_now-now.ensures in
    exchanged_put _ c.args.env.now _ c.requires.0 _ _ now _ c.load.ensures c.requires.1 _ _ c.in-Live.is c.store.new.env c.store.auto.env c.store.ensures
    (c.changed_state-restored.ensures ∙ ap (λ (k : KeptState). changed_state c.in-Live.state k.moved_from k.roots) c.replace-before.ensures.value)
