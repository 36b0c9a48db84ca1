-- `ownership::check_judged` meets its contract. Assumes nothing.
use native.Mathlib.Omega.{arith}
use mathlib.Core.Path.{ap, ◌∙◌}
use Prim.Native.Nat.{ℕ}
use Rattle.syntax.specs.Refusals.{told}
use Rattle.ownership.proofs.CheckLaws.{under_words, set_ranged, script_ends, script_names, script_few, rules_told}
use Rattle.ownership.proofs.check_judged.Goals as goal

pub judge_alone-requires : goal.judge_alone-requires
judge_alone-requires c =
    let rows = c.args.rows.now in
    let under = under_words rows c.type_inv.rows in
    let set = c.args.set in
    let ranges = set_ranged set rows under _ c.requires in
    (script_ends set rows under _ c.requires, script_names set rows under _ c.requires, omega (arith, script_few set rows under _ c.requires), ranges.variables.1, omega (arith, ranges.levels.1))

pub returns : goal.returns
returns c =
    let rows = c.args.rows.now in
    let under = under_words rows c.type_inv.rows in
    ap (told (λ (n : ℕ). n)) c.and.ensures ∙ rules_told c.args.set rows under _ c.requires _ c.judge_alone.ensures
