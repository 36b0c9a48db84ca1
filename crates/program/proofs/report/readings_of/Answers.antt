-- `program::report::readings_of` meets its contract. Assumes nothing.
use Prim.Native.Nat.{◌*◌}
use native.Mathlib.Omega.{arith}
use lib.IntN.{pos}
use Rattle.std.proofs.lemmas.List.FromFn.{fill_by_all}
use Rattle.room.specs.Calling.{reading_at}
use Rattle.program.specs.Line.{readings_of}
use Rattle.program.proofs.report.readings_of.Goals as goal

pub returns : goal.returns
unfolding readings_of
returns c = fill_by_all (λ k. reading_at c.args.input.now (4 * k)) _ 8 (pos 0) c.loop-i.invariant.0 (λ k h. c.loop-i.invariant.1 k (omega arith))
