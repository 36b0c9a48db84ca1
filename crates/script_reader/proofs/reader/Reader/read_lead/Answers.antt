-- `script_reader::reader::Reader::read_lead` meets its contract. Assumes nothing.
use mathlib.Core.Path.{refl}
use Rattle.std.proofs.lemmas.Result.{err_from_is_err_and}
use Rattle.script_reader.specs.Lent.{reached}
use Rattle.script_reader.proofs.reader.Reader.read_lead.Goals as goal

pub returns-in_err-version-clause-moved : goal.returns-in_err-version-clause-moved
unfolding reached
returns-in_err-version-clause-moved c =
    let p = err_from_is_err_and c.from_residual.result c.from_residual.ensures.1 in
    rw p.1 refl

pub returns-clause-moved : goal.returns-clause-moved
unfolding reached
returns-clause-moved c = refl
