-- `term_runner::plain::reading_bits` meets its contract. Assumes nothing.
use mir.Syntax.{w32}
use mir.Val.{SFits}
use mir.Facts.{to_z-of_z}
use lib.ListN.{get_or}
use lib.IntN.{pos}
use mathlib.Core.Path.{◌∙◌}
use Rattle.dynamics.specs.Readings.{bits_of}
use borrow.Author.Rules.{rules}
use Rattle.term_runner.proofs.plain.reading_bits.Goals as goal

pub returns : goal.returns
unfolding bits_of
returns c =
    let e = get_or c.args.readings.now c.args.n (pos 0) in
    let h : SFits w32 e = search rules in
    c.bits_of.ensures ∙ rw (to_z-of_z h)
