-- `script_reader::reader::Reader::read_outermost` meets its contract. Assumes nothing.
use mathlib.Core.Path.{refl}
use Rattle.std.proofs.lemmas.Result.{err_from_is_err_and}
use Rattle.script_reader.specs.Lent.{reached, OutermostRead}
use Rattle.script_reader.proofs.reader.Reader.read_outermost.Goals as goal

pub returns-in_err-version-clause-read : goal.returns-in_err-version-clause-read
unfolding OutermostRead
returns-in_err-version-clause-read c =
    let p = err_from_is_err_and c.from_residual.result c.from_residual.ensures.1 in
    rw (c.in_err-version.was, p.1, p.2) refl

pub returns-in_err-version-clause-moved : goal.returns-in_err-version-clause-moved
unfolding reached
returns-in_err-version-clause-moved c =
    let p = err_from_is_err_and c.from_residual.result c.from_residual.ensures.1 in
    rw p.1 refl

pub returns-in_err-progress-clause-read : goal.returns-in_err-progress-clause-read
unfolding OutermostRead
returns-in_err-progress-clause-read c =
    let p = err_from_is_err_and c.from_residual-in_err-progress.result c.from_residual-in_err-progress.ensures.1 in
    rw (c.in_ok-version.was, p.1, p.2) c.in_err-progress.ensures

pub returns-in_err-progress-clause-moved : goal.returns-in_err-progress-clause-moved
unfolding reached
returns-in_err-progress-clause-moved c =
    let p = err_from_is_err_and c.from_residual-in_err-progress.result c.from_residual-in_err-progress.ensures.1 in
    rw p.1 refl

pub returns-clause-read : goal.returns-clause-read
unfolding OutermostRead
returns-clause-read c = rw c.in_ok-version.was c.in_ok-progress.ensures

pub returns-clause-moved : goal.returns-clause-moved
unfolding reached
returns-clause-moved c = refl
