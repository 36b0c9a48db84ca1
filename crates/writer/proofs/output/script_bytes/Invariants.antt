use Prim.Native.Nat.{◌+◌, ◌*◌, ◌≤◌}
use mathlib.Core.Path.{◌≡◌}
use lib.ListN.{length}
use Rattle.writer.specs.OutputParts.{flat}
use Rattle.writer.proofs.output.script_bytes.Given as goal

-- `writer::output::script_bytes` meets its contract. The loop's invariant: the bytes of the rows passed are counted, at most five a row.
abbrev pub invariant-loop-i : goal.invariant-loop-i
invariant-loop-i l = record { counted : l.bytes ≡ 5 + length (flat l.i l.rows); few : l.bytes ≤ 5 + 5 * l.i }
