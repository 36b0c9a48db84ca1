-- `program::report::reading_at` meets its contract. Assumes nothing.
use Prim.Native.Nat.{◌+◌}
use native.Mathlib.Omega.{arith}
use mathlib.Core.Path.{refl, ◌∙◌}
use borrow.Author.Tests.{lt-leb, le-leb}
use lib.ListN.{length}
use mir.Facts.{to_z-of_z}
use mir.Syntax.{w32}
use mir.Val.{SFits}
use Rattle.room.specs.Calling.{reading_at}
use borrow.Author.Rules.{rules}
use Rattle.program.proofs.report.reading_at.Goals as goal

pub returns-then-saturating_sub-at : goal.returns-then-saturating_sub-at
unfolding reading_at
returns-then-saturating_sub-at c = rw (lt-leb (c.args.at + 4) (length c.args.input.now) (omega arith)) refl

pub returns : goal.returns
unfolding reading_at
returns c =
    let h : SFits w32 c.from_be_bytes.result = search rules in
    rw (le-leb (c.args.at + 4) (length c.args.input.now) (omega arith)) (to_z-of_z h ∙ c.from_be_bytes.ensures)
