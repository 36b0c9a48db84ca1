use native.Mathlib.Omega.{arith}
use mathlib.Core.Path.{refl}
use Rattle.writer.specs.OutputParts.{flat}
use Rattle.writer.proofs.OutputLaws.{kind_counted, all_counted}
use Rattle.writer.proofs.output.script_bytes.Goals as goal

pub loop-i-init : goal.loop-i-init
unfolding flat
loop-i-init c = record { counted = refl; few = omega arith }

pub loop-i-preserved : goal.loop-i-preserved
loop-i-preserved c =
    let l = c.loop-i in
    record { counted = omega (arith, kind_counted c.args.rows.now l.i c.row_length-bytes.result c.row_length-bytes.ensures.0); few = omega arith }

pub returns : goal.returns
returns c = λ v. all_counted _ _ _ c.loop-i.auto.i-end c.loop-i-test.false _ v c.loop-i.invariant.counted
