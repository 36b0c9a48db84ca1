-- `assigns::assign::write_beyond` meets its contract. Assumes nothing.
use mathlib.Core.Path.{◌≡◌, sym}
use mathlib.Core.Bool.{true}
use lib.ListN.{take}
use Rattle.statics.specs.Links.{no_shared}
use Rattle.variables.specs.Chains.{chain_of}
use Rattle.assigns.proofs.AssignLaws.{passes_as, shared_passed, other_links, lives_too_short, written}
use Rattle.assigns.proofs.assign.write_beyond.Goals as goal
use Rattle.assigns.proofs.assign.write_beyond.Goals.{Else-not-no_shared}

-- Where no shared link is passed.
passed : (e : Else-not-no_shared) → no_shared (take e.args.place.follows (chain_of e.args.beyond.links)) ≡ true
passed e = passes_as _ _ _ _ _ e.index_of.ensures e.no_shared.ensures e.if-not-no_shared.false

pub returns-then-not-no_shared : goal.returns-then-not-no_shared
returns-then-not-no_shared c =
    let shared = passes_as _ _ _ _ _ c.index_of.ensures c.no_shared.ensures (c.if-not-no_shared.true) in
    (λ i. sym (shared_passed _ _ _ c.requires.0.1.1 i _ _ _ _ (c.requires.1 i) _ shared), c.requires.0.0)

pub returns-then-beyond-of : goal.returns-then-beyond-of
returns-then-beyond-of c =
    (λ i. sym (other_links _ _ _ c.requires.0.1.1 i _ _ _ _ (c.requires.1 i) _ (passed (goal.at.returns-then-beyond-of c).Else-not-no_shared) c.if-beyond-of.true), c.requires.0.0)

pub live_long_enough-requires : goal.live_long_enough-requires
live_long_enough-requires c =
    (c.requires.0.0, (c.requires.1 0).low)

pub returns-then-not-live_long_enough : goal.returns-then-not-live_long_enough
returns-then-not-live_long_enough c = (
  λ i. sym (lives_too_short _ _ _ c.requires.0.1.1 i _ _ _ _ (c.requires.1 i) _ (passed (goal.at.returns-then-not-live_long_enough c).Else-not-no_shared) c.if-beyond-of.false _ (c.recorded_roots-roots.ensures c.args.env.now) c.live_long_enough.result c.live_long_enough.ensures (c.if-not-live_long_enough.true)),
  c.requires.0.0,
)

pub write_to-requires : goal.write_to-requires
write_to-requires c =
    (c.requires.0.0, (c.requires.1 0).low)

pub returns : goal.returns
returns c = (
  λ i. sym (written _ _ _ c.requires.0.1.1 i _ _ _ _ (c.requires.1 i) _ (passed (goal.at.returns c).Else-not-no_shared) c.if-beyond-of.false _ (c.recorded_roots-roots.ensures c.args.env.now) c.live_long_enough.result c.live_long_enough.ensures c.if-not-live_long_enough.false _ c.write_to.ensures.0),
  c.write_to.ensures.1,
)
