-- `writer::output::put` meets its contract. Assumes nothing.
use Prim.Native.Nat.{◌+◌, ◌-◌}
use native.Mathlib.Omega.{arith}
use mathlib.Core.Path.{◌≡◌, refl, sym, ◌∙◌}
use mathlib.Core.List.{append_assoc}
use lib.ListN.{length, take}
use lib.Seq.{drop-drop}
use Rattle.std.proofs.lemmas.List.Edits.{sets-eq}
use Rattle.writer.proofs.output.put.Goals as goal

pub returns : goal.returns
returns c =
    let a = c.args in
    let n : a.at + length a.bytes.now - a.at ≡ length a.bytes.now = omega arith in
    (refl, rw (c.copy_from_slice.ensures.after, n, drop-drop (length a.bytes.now) a.at a.output.now) (sym (sets-eq a.bytes.now a.output.now a.at c.requires ∙ append_assoc (take a.at a.output.now) a.bytes.now _)))
