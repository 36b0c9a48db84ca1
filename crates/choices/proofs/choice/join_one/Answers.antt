-- `choices::choice::join_one` meets its contract. Assumes nothing.
use native.Mathlib.Omega.{arith}
use mathlib.Core.Path.{sym, ◌∙◌}
use Rattle.notes.proofs.StateLaws.{changed_fits}
use Rattle.choices.proofs.RowLaws.{joined_same, joined_dead, joined_put}
use Rattle.choices.proofs.choice.join_one.Goals as goal

pub returns-then-is_empty : goal.returns-then-is_empty
returns-then-is_empty c =
    joined_same _ _ _ c.requires.0 _ _ c.kept_now-now.ensures _ c.if-now-kept.true c.less.ensures (sym c.is_empty.ensures ∙ c.if-is_empty.true)

pub returns-in_default : goal.returns-in_default
returns-in_default c = joined_dead _ _ _ c.requires.0 _ _ c.kept_now-now.ensures _ c.load.ensures c.in_default.not-Live

pub store-requires : goal.store-requires
store-requires c =
    (omega (arith, c.requires.0.0), c.requires.1, c.requires.0.1, changed_fits _ _ _ _ c.changed_state.ensures)

pub returns : goal.returns
returns c =
    joined_put _ c.args.env.now _ c.requires.0 _ _ c.kept_now-now.ensures _ c.load.ensures c.requires.1 _ _ c.in-Live.is c.store.new.env c.store.auto.env c.store.ensures
    _ c.end_roots.ensures _ _ c.unite-both.ensures c.earlier_link-first.ensures c.changed_state.ensures
