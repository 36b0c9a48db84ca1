-- Who is named later, and who may lead to a root (LANGUAGE 3.10, 3.33).
use Rattle.std.specs.Prelude.{ℕ, ◌<◌, ◌≤◌, ◌≡◌, Bool, true, false, List, get_or, ltb}
use Rattle.syntax.specs.Result.{pick}
use Rattle.bars.specs.declared.bars.Leading.{Leading}
use Rattle.variables.specs.declared.table.Row.{Row}
use Rattle.variables.specs.declared.roots.Roots.{Roots}
use Rattle.statics.specs.Uses.{Unfinished, named_later}
use Rattle.variables.specs.Masks.{has}
use Rattle.variables.specs.Table.{entry_word, roots_at, InScope}

-- ---- who is named later, and who may lead to a root

-- What is used from a row on, and these variables besides. `uses` has for each variable one more than the last row that names it.
abbrev pub named_from : List ℕ → ℕ → (ℕ → Bool) → ℕ → Bool
named_from uses from named x = pick (ltb from (get_or uses x 0)) true (named x)

-- The terms that have not finished name these.
abbrev pub LaterIs : ℕ → List ℕ → ℕ → (ℕ → Bool) → Unfinished → Type 0
LaterIs nv uses from named ns = (x : ℕ) → x < nv → named_later ns x ≡ named_from uses from named x

-- The variable y is in scope, and records a place with the root x. Who holds one does (proofs/HeldLaws).
abbrev pub Records : List Row → ℕ → ℕ → Type 0
Records env y x = (2 ≤ entry_word env y 0) × (has (roots_at env y) x ≡ true)

-- `all` is in scope. It has those of the set that record the root, and whoever records one of `all`; it may have more. `named` has those of `all`
-- that are named.
pub record LeadingTo (env : List Row) (root : ℕ) (these : Roots) (named : ℕ → Bool) (r : Leading) : Type 0 where
  pub scoped : InScope env r.all
  pub start : (y : ℕ) → has these y ≡ true → Records env y root → has r.all y ≡ true
  pub closed : (x y : ℕ) → has r.all x ≡ true → Records env y x → has r.all y ≡ true
  pub named_are : (y : ℕ) → has r.named y ≡ pick (has r.all y) (named y) false
