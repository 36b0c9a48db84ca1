use Rattle.std.proofs.Common.{◌≡◌, ◌-◌, take}
use Rattle.statics.specs.Links.{last_shared}
use Rattle.variables.specs.Chains.{chain_of, as_passed}
use Rattle.variables.proofs.ChainLaws.{last_of}
use Rattle.variables.proofs.chains.last_shared.Given as goal

abbrev pub invariant-loop-passed : goal.invariant-loop-passed
invariant-loop-passed l = last_of (as_passed l.last) l.passed (last_shared (take (l.k - l.passed) (chain_of l.rest))) ≡ last_shared (take l.k (chain_of l.links))
