use Rattle.std.proofs.Common.{◌≡◌, ◌+◌, ◌*◌, ◌-◌, ◌≤◌}
use Rattle.statics.specs.Links.{leading_boxes}
use Rattle.variables.specs.Chains.{chain_of}
use Rattle.variables.proofs.chains.leading_boxes.Given as goal

abbrev pub invariant-loop-link : goal.invariant-loop-link
invariant-loop-link l = (l.count + leading_boxes (chain_of l.rest) ≡ leading_boxes (chain_of l.links)) × (l.count * 2 + l.rest ≤ l.links + (1 - l.rest))

abbrev pub decreases-loop-link : goal.decreases-loop-link
decreases-loop-link l = l.rest
