-- What was read stands in the buffer.
use Rattle.std.specs.Prelude.{◌≤◌, length}
use Rattle.roomcheck.proofs.read_input.Given as goal

abbrev pub invariant-loop : goal.invariant-loop
invariant-loop g l = l.done ≤ length l.buffer
