-- `term_reader::operands::read_place` meets its contract. Assumes nothing.
use mathlib.Core.Path.{refl}
use Rattle.std.proofs.lemmas.Result.{err_from_is_err_and}
use Rattle.syntax.specs.Layout.{zeros}
use Rattle.syntax.specs.ByteParts.{values_at}
use Rattle.term_reader.proofs.operands.read_place.Goals as goal

pub returns-in_err-root : goal.returns-in_err-root
returns-in_err-root c =
    let p = err_from_is_err_and c.from_residual.result c.from_residual.ensures.1 in
    rw (p.1, p.2) (c.in_err-root.ensures.0, tt)

pub returns : goal.returns
unfolding values_at zeros
returns c = let q = c.in_ok-root.ensures in (q.0, rw (q.1.0, q.1.1) refl)
