-- `rules::rules::lent_at` meets its contract. Assumes nothing.
use native.Mathlib.Omega.{arith}
use mathlib.Core.Path.{refl, ap, ◌∙◌}
use Rattle.std.specs.Prelude.{Ok}
use Rattle.variables.specs.Table.{variable_at}
use Rattle.variables.proofs.EntryLaws.{live_inside}
use Rattle.rules.proofs.LentLaws.{lent_own, lent_low, lent_there, never_moved}
use Rattle.rules.proofs.rules.lent_at.Goals as goal

pub search-requires : goal.search-requires
search-requires c = let pre = c.requires in (pre.0, pre.1.is, pre.1.long)

pub bounds-env-root : goal.bounds-env-root
bounds-env-root c =
    let env = c.args.env.now in
    let root = c.args.root in
    omega (arith, live_inside env c.args.variables c.requires.0.0 root (variable_at env root) c.requires.1.is, c.requires.0.0.0)

pub borrows_at-requires : goal.borrows_at-requires
borrows_at-requires c = (
  omega (arith, c.requires.0.0.0),
  lent_low _ _ c.requires.0 0 _ _ c.requires.1 _ c.search.ensures _ (c.in-Ok.is ∙ ap Ok c.in-At.is),
)

pub returns-in-Own : goal.returns-in-Own
returns-in-Own c =
    λ i. lent_own _ _ c.requires.0 i _ _ c.requires.1 _ c.search.ensures (c.in-Ok.is ∙ ap Ok c.in-Own.is) _ refl

pub returns-in-At : goal.returns-in-At
returns-in-At c =
    λ i. lent_there _ _ c.requires.0 i _ _ c.requires.1 _ c.search.ensures _ (c.in-Ok.is ∙ ap Ok c.in-At.is) _ c.borrows_at.ensures

pub unreachable-requires : goal.unreachable-requires
unreachable-requires c = never_moved _ _ c.requires.0 0 _ _ c.requires.1 _ c.search.ensures _ c.in_default.is
