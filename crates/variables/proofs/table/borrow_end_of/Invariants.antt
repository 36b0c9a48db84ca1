use Rattle.std.proofs.Common.{◌≡◌}
use Rattle.variables.specs.Chains.{chain_of}
use Rattle.variables.specs.Table.{borrow_end_of}
use Rattle.variables.proofs.table.borrow_end_of.Given as goal

abbrev pub invariant-loop-link : goal.invariant-loop-link
invariant-loop-link l = borrow_end_of (chain_of l.rest) l.roots ≡ borrow_end_of (chain_of l.links) l.roots

abbrev pub decreases-loop-link : goal.decreases-loop-link
decreases-loop-link l = l.rest
