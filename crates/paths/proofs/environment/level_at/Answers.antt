-- `paths::environment::level_at` meets its contract. Assumes nothing.
use native.Mathlib.Omega.{arith}
use mathlib.Core.Path.{sym}
use Rattle.variables.proofs.TableLaws.{level_live, level_not_live, now_live, now_dead, past_status}
use Rattle.paths.proofs.environment.level_at.Goals as goal
use Rattle.paths.proofs.environment.level_at.Goals.{else-x-variables-via-then-x-variables+else-eq, else-x-variables-via-else-x-variables}

pub returns-then-eq : goal.returns-then-eq
returns-then-eq c = sym (level_live c.args.env.now c.args.x (now_live _ _ c.eq.ensures c.if-eq.true))

pub returns : goal.returns
returns c =
    sym (level_not_live c.args.env.now c.args.x (elim c.else-x-variables.branch [
      | else-x-variables-via-then-x-variables+else-eq w ↦ now_dead _ _ w.eq.ensures w.if-eq.false
      | else-x-variables-via-else-x-variables w ↦ omega (arith, past_status c.args.env.now c.args.variables c.requires c.args.x w.if-x-variables.false)
    ]))
