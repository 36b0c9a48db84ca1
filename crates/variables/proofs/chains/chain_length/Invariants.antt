use Rattle.std.proofs.Common.{◌≡◌, ◌+◌, ◌≤◌, length}
use Rattle.variables.specs.Chains.{chain_of}
use Rattle.variables.proofs.chains.chain_length.Given as goal

abbrev pub invariant-loop-after : goal.invariant-loop-after
invariant-loop-after l = (l.count + length (chain_of l.rest) ≡ length (chain_of l.links)) × (l.count + l.rest ≤ l.links)

abbrev pub decreases-loop-after : goal.decreases-loop-after
decreases-loop-after l = l.rest
