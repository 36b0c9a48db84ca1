-- `script_reader::reader::judge_mark` meets its contract. Assumes nothing.
use Prim.Native.Nat.{◌+◌}
use mathlib.Core.Path.{◌≡◌, refl, sym, ◌∙◌}
use native.Mathlib.Omega.{arith}
use borrow.Author.Tests.{le-leb, lt-leb, eq-eqb, ne_eqb}
use Rattle.syntax.specs.Result.{ok}
use Rattle.syntax.specs.ByteParts.{on_number, mark_number}
use Rattle.script_reader.specs.Lent.{marked}
use Rattle.script_reader.proofs.MarkLaws.{mark_bytes, mark_at}
use Rattle.script_reader.proofs.reader.judge_mark.Goals as goal

pub returns-in_default : goal.returns-in_default
unfolding on_number mark_number
returns-in_default c = rw (sym c.loop-j.invariant, mark_at c.args.script.now mark_bytes c.args.at c.loop-j.j _ c.loop-j-test.true, le-leb _ _ c.in_default.ensures.lookup.3) refl

pub returns-then-found-byte : goal.returns-then-found-byte
unfolding on_number mark_number
returns-then-found-byte c =
    let there = c.in-Some.ensures.lookup.3 in
    let found = sym (there.1 0) in
    rw (sym c.loop-j.invariant, mark_at c.args.script.now mark_bytes c.args.at c.loop-j.j _ c.loop-j-test.true, lt-leb _ _ there.0, found, ne_eqb _ _ c.if-found-byte.true) refl

pub loop-j-preserved : goal.loop-j-preserved
unfolding on_number mark_number
loop-j-preserved c =
    let there = c.in-Some.ensures.lookup.3 in
    let found = sym (there.1 0) in
    let e = mark_at c.args.script.now mark_bytes c.args.at c.loop-j.j (ok (c.args.at + 3)) c.loop-j-test.true in
    rw (lt-leb _ _ there.0, found, eq-eqb _ _ c.if-found-byte.false) at (sym e) ∙ c.loop-j.invariant

pub returns : goal.returns
unfolding marked
returns c =
    let e : c.loop-j.j ≡ 3 = omega (arith, c.loop-j-test.false, c.loop-j.auto.j-end) in
    rw e at c.loop-j.invariant
