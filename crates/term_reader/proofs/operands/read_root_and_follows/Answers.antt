-- `term_reader::operands::read_root_and_follows` meets its contract: the two bytes of a place, one after the other. Assumes nothing.
use Prim.Native.Nat.{◌+◌}
use native.Mathlib.Omega.{arith}
use mathlib.Core.Path.{◌≡◌, refl}
use Rattle.std.proofs.lemmas.Result.{err_from_is_err_and}
use Rattle.syntax.specs.ByteParts.{on_number, judged_fields}
use Rattle.syntax.proofs.NumberLaws.{number_passed, number_says}
use Rattle.term_reader.proofs.operands.read_root_and_follows.Goals as goal

pub returns-in_err-root : goal.returns-in_err-root
unfolding judged_fields
returns-in_err-root c =
    let p = err_from_is_err_and c.from_residual.result c.from_residual.ensures.1 in
    rw (p.1, p.2) (number_passed _ _ _ _ _ c.in_err-root.ensures, tt)

pub returns-in_err-follows : goal.returns-in_err-follows
unfolding judged_fields on_number
returns-in_err-follows c =
    let p = err_from_is_err_and c.from_residual-in_err-follows.result c.from_residual-in_err-follows.ensures.1 in
    rw (p.1, p.2, (number_says _ _ _ _ c.in_ok-root.ensures).0) (number_passed _ _ _ _ _ c.in_err-follows.ensures, tt)

pub returns : goal.returns
unfolding judged_fields on_number
returns c =
    let q = number_says _ _ _ _ c.in_ok-root.ensures in
    let r = number_says _ _ _ _ c.in_ok-follows.ensures in
    let e : c.args.j + 2 ≡ c.args.j + 1 + 1 = omega arith in
    (rw (q.0, r.0, e) refl, (q.1, r.1))
