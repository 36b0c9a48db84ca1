-- `assigns::assign::write_own` meets its contract. Assumes nothing.
use mathlib.Core.Path.{sym}
use Rattle.rules.proofs.PlaceLaws.{named_inside}
use Rattle.rules.proofs.OwnLaws.{own_other_links, own_too_short, own_written}
use Rattle.assigns.proofs.assign.write_own.Goals as goal

pub returns-then-rest-of : goal.returns-then-rest-of
returns-then-rest-of c =
    (λ i. sym (own_other_links _ _ c.requires.0 i _ (c.requires.1 i) _ c.if-rest-of.true), c.requires.0.0)

pub returns-then-not-lives_at : goal.returns-then-not-lives_at
returns-then-not-lives_at c = (
  λ i. sym (own_too_short _ _ c.requires.0 i _ (c.requires.1 i) _ c.if-rest-of.false _ (c.recorded_roots-roots.ensures c.args.env.now) _ c.index_of-root.ensures _ c.level_at.ensures c.lives_at.result c.lives_at.ensures (c.if-not-lives_at.true)),
  c.requires.0.0,
)

pub refill-requires : goal.refill-requires
refill-requires c =
    (c.requires.0.0, named_inside _ _ (c.requires.1 0).named _ c.index_of-root.ensures _ c.requires.0)

pub returns : goal.returns
returns c = (
  λ i. sym (own_written _ _ c.requires.0 i _ (c.requires.1 i) _ c.if-rest-of.false _ (c.recorded_roots-roots.ensures c.args.env.now) _ c.index_of-root.ensures _ c.level_at.ensures c.lives_at.result c.lives_at.ensures (c.if-not-lives_at.false) _ c.refill.ensures.0),
  c.refill.ensures.1,
)
