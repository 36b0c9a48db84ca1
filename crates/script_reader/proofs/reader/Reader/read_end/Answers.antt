-- `script_reader::reader::Reader::read_end` meets its contract. Assumes nothing.
use mathlib.Core.Path.{refl}
use Rattle.std.proofs.lemmas.Result.{err_from_is_err_and}
use Rattle.script_reader.specs.Lent.{end_judged}
use Rattle.script_reader.proofs.reader.Reader.read_end.Goals as goal

pub returns-in_err-script : goal.returns-in_err-script
unfolding end_judged
returns-in_err-script c =
    let p = err_from_is_err_and c.from_residual.result c.from_residual.ensures.1 in
    rw (c.in_err-script.was, p.1, p.2) refl
