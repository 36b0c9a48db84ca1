use Rattle.std.proofs.Common.{◌≡◌, ◌-◌}
use Rattle.variables.specs.Chains.{chain_of, rest_of}
use Rattle.variables.proofs.chains.links_from.Given as goal

abbrev pub invariant-loop : goal.invariant-loop
invariant-loop l = rest_of (l.k - l.counter) (chain_of l.rest) ≡ rest_of l.k (chain_of l.links)
