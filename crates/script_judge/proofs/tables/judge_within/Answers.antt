-- `script_judge::tables::judge_within` meets its contract. Assumes nothing.
use native.Mathlib.Omega.{arith}
use mathlib.Core.Path.{◌≡◌}
use Rattle.variables.specs.Table.{blank}
use Rattle.script_judge.proofs.TableStart.{tables_ready}
use Rattle.script_judge.proofs.tables.judge_within.Goals as goal

pub whole_as_front-judge_script : goal.whole_as_front-judge_script
whole_as_front-judge_script g c = let p = c.requires in (p.4, omega (arith, p.5))

pub whole_as_front-judge_script-2 : goal.whole_as_front-judge_script-2
whole_as_front-judge_script-2 g c = let p = c.requires in (p.6, omega (arith, p.7))

pub judge_script-requires : goal.judge_script-requires
judge_script-requires g c =
    let p = c.requires in
    let d = c.default-env.ensures in
    let sets = d.1.1 in
    let numbers = sets.1.1 in
    let new : c.default-env.result ≡ blank = λ i. record {
      status = d.0 i;
      links = d.1.0 i;
      roots = record { low = sets.0.0 i; high = sets.0.1 i };
      holders = record { low = sets.1.0.0 i; high = sets.1.0.1 i };
      moved_from = numbers.0 i;
      level = numbers.1.0 i;
      note = numbers.1.1 i;
    } in
    let tables = tables_ready _ new _ _ _ p.4 p.6 (omega (arith, p.6, p.7)) in
    (p.0, p.1, p.2, p.3, tables.0, tables.1, tables.2, tables.3)
