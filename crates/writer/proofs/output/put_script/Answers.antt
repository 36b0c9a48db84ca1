use native.Mathlib.Omega.{arith}
use mathlib.Core.Path.{refl}
use Rattle.writer.specs.OutputParts.{flat}
use Rattle.writer.proofs.OutputLaws.{row_counted, row_fits, row_put, all_put}
use Rattle.writer.proofs.output.put_script.Goals as goal

pub loop-row-init : goal.loop-row-init
unfolding flat
loop-row-init c = record { place = c.put-at.ensures.0; put = refl }

pub put_row_bytes-at-requires : goal.put_row_bytes-at-requires
put_row_bytes-at-requires c =
    let a = c.args in
    let l = c.loop-row in
    (omega arith, omega (arith, row_fits a.rows.now l.row a.terms (omega arith), l.invariant.place, l.auto.output, c.put-at.auto.output))

pub loop-row-preserved : goal.loop-row-preserved
loop-row-preserved c =
    let l = c.loop-row in
    record { place = omega (arith, row_counted c.args.rows.now l.row, c.put_row_bytes-at.ensures.0); put = row_put _ _ _ _ _ _ l.invariant.place l.invariant.put c.put_row_bytes-at.ensures.1 }

pub returns : goal.returns
returns c = all_put _ _ _ c.loop-row.auto.row-end c.loop-row-test.false _ c.args.output.now _ _ (rw c.to_be_bytes.ensures at c.put-at.ensures.1) c.loop-row.invariant.put
