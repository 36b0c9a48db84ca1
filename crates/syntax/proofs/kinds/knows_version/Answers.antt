-- `syntax::kinds::knows_version` meets its contract. Assumes nothing.
use native.Mathlib.Omega.{arith}
use borrow.Author.Tests.{le-leb, lt-leb}
use Rattle.syntax.specs.Kinds.{newest, knows}
use Rattle.syntax.proofs.kinds.knows_version.Goals as goal
use Rattle.syntax.proofs.kinds.knows_version.Goals.{then-version-ge1, else-version-ge1}

pub returns-then-version-newest : goal.returns-then-version-newest
unfolding knows newest
returns-then-version-newest c = elim c.if-version-ge1.branch [ then-version-ge1 w ↦ grind (arith, lt-leb, le-leb) | else-version-ge1 w ↦ grind (arith, lt-leb, le-leb) ]

pub returns-else-version-newest : goal.returns-else-version-newest
unfolding knows newest
returns-else-version-newest c = elim c.if-version-ge1.branch [ then-version-ge1 w ↦ grind (arith, lt-leb, le-leb) | else-version-ge1 w ↦ grind (arith, lt-leb, le-leb) ]
