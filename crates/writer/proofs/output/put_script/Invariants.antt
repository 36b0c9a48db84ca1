use Prim.Native.Nat.{◌+◌}
use mathlib.Core.Path.{◌≡◌}
use lib.ListN.{length}
use lib.Seq.{sets}
use Rattle.writer.specs.OutputParts.{flat}
use Rattle.writer.proofs.output.put_script.Given as goal

-- `writer::output::put_script` meets its contract. The loop's invariant: after the mark and the version stand the bytes of the rows passed, up to `at`.
abbrev pub invariant-loop-row : goal.invariant-loop-row
invariant-loop-row l = record { place : l.at ≡ 5 + length (flat l.row l.rows); put : l.output ≡ sets l.initial.output 5 (flat l.row l.rows) }
