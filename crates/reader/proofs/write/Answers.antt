-- `reader::write` meets its contract, from what judging the rows, counting and writing ensure. Assumes nothing.
use native.Mathlib.Omega.{arith}
use Rattle.std.proofs.lemmas.Result.{err_from_is_err_and}
use Rattle.reader.proofs.OutputAnswers.{judged, writing_refused, short_output, script_written}
use Rattle.reader.proofs.write.Goals as goal

pub returns-in_err-terms : goal.returns-in_err-terms
returns-in_err-terms c =
    let p = err_from_is_err_and c.from_residual.result c.from_residual.ensures.1 in
    rw (p.1, p.2) (writing_refused _ _ _ _ c.in_err-terms.ensures _)

pub script_bytes-bytes-requires : goal.script_bytes-bytes-requires
script_bytes-bytes-requires c = (judged _ _ _ (λ i. (c.type_inv.rows i).fits) _ c.in_ok-terms.ensures).room

pub returns-then-output-bytes : goal.returns-then-output-bytes
returns-then-output-bytes c = short_output _ _ _ _ _ (judged _ _ _ (λ i. (c.type_inv.rows i).fits) _ c.in_ok-terms.ensures) (c.script_bytes-bytes.ensures c.args.version) _ c.if-output-bytes.true

pub put_script-requires : goal.put_script-requires
put_script-requires c = ((judged _ _ _ (λ i. (c.type_inv.rows i).fits) _ c.in_ok-terms.ensures).room, omega (arith, c.script_bytes-bytes.ensures c.args.version))

pub returns : goal.returns
returns c = script_written _ _ _ _ _ (judged _ _ _ (λ i. (c.type_inv.rows i).fits) _ c.in_ok-terms.ensures) (c.script_bytes-bytes.ensures c.args.version) _ c.if-output-bytes.false _ c.put_script.ensures
