-- `script_reader::reader::read_outermost_term` meets its contract: the version and 18 are asked first, and a term that passes is read as a
-- block of one. Assumes nothing.
use native.Mathlib.Omega.{arith}
use mathlib.Core.Path.{refl, sym, ap}
use borrow.Author.Tests.{le-leb, lt-leb}
use Rattle.std.proofs.lemmas.Result.{err_from_is_err_and}
use Rattle.syntax.specs.ByteParts.{got_of, RowsAfter}
use Rattle.script_reader.specs.Lent.{remaining, with_version, TermRead}
use Rattle.syntax.proofs.BlockLaws.{one_reading}
use Rattle.syntax.proofs.Lists.{part_all, under_bytes}
use Rattle.term_reader.proofs.DueBlockBytes.{byte_refused, byte_same}
use Rattle.script_reader.proofs.WholeLaws.{ready_at}
use Rattle.script_reader.proofs.reader.read_outermost_term.Goals as goal

pub returns-then-newest-version : goal.returns-then-newest-version
unfolding TermRead
returns-then-newest-version c = rw (lt-leb _ _ c.if-newest-version.true) refl

pub returns-then-no_block_byte : goal.returns-then-no_block_byte
unfolding TermRead got_of RowsAfter with_version
returns-then-no_block_byte c =
    let e = rw part_all at (sym c.if-no_block_byte.ensures) in
    rw (le-leb _ _ c.if-newest-version.false, byte_refused c.args.limits.now c.args.version c.args.limits.now.levels (remaining c.args.script.now c.args.at) c.args.at 0 0 (omega arith) e) (refl, tt)

pub read_block-requires : goal.read_block-requires
read_block-requires c = rw (c.new-progress.ensures, part_all) (ready_at _ _ (under_bytes c.args.script.now c.type_inv.script) _ c.requires.0 _ c.requires.1, omega arith)

pub returns-in_err-read_block : goal.returns-in_err-read_block
unfolding TermRead with_version
returns-in_err-read_block c =
    let p = err_from_is_err_and c.from_residual.result c.from_residual.ensures.1 in
    let e = rw part_all at (sym c.if-no_block_byte.ensures) in
    let q = one_reading _ _ 0 _ _ _ (rw (c.new-progress.ensures, part_all) at c.in_err-read_block.ensures) in
    rw (p.1, p.2, le-leb _ _ c.if-newest-version.false, byte_same c.args.limits.now c.args.version c.args.limits.now.levels (remaining c.args.script.now c.args.at) c.args.at 0 0 (omega arith) e)
    (ap (with_version _) q.0, q.1)

pub returns : goal.returns
unfolding TermRead with_version
returns c =
    let e = rw part_all at (sym c.if-no_block_byte.ensures) in
    let q = one_reading _ _ 0 _ _ _ (rw (c.new-progress.ensures, part_all) at c.in_ok-read_block.ensures) in
    rw (le-leb _ _ c.if-newest-version.false, byte_same c.args.limits.now c.args.version c.args.limits.now.levels (remaining c.args.script.now c.args.at) c.args.at 0 0 (omega arith) e)
    (ap (with_version _) q.0, q.1)
