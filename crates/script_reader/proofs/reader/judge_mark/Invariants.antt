use Prim.Native.Nat.{◌+◌}
use mathlib.Core.Path.{◌≡◌}
use mathlib.Core.List.{[], ◌∷◌}
use lib.ListN.{drop}
use Rattle.syntax.specs.Result.{ok}
use Rattle.script_reader.specs.Lent.{marked}
use Rattle.script_reader.proofs.reader.judge_mark.Given as goal

abbrev pub invariant-loop-j : goal.invariant-loop-j
invariant-loop-j l = marked (drop l.j (0x52 ∷ 0x43 ∷ 0x53 ∷ [])) l.script (l.at + l.j) (ok (l.at + 3)) ≡ marked (0x52 ∷ 0x43 ∷ 0x53 ∷ []) l.script l.at (ok (l.at + 3))
