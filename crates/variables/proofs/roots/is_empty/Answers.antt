-- `variables::roots::is_empty` meets its contract. Assumes nothing.
use borrow.Author.Tests.{eq-eqb, ne_eqb}
use Rattle.variables.specs.Masks.{is_empty}
use Rattle.variables.proofs.roots.is_empty.Goals as goal

pub returns-then-s-eq0 : goal.returns-then-s-eq0
unfolding is_empty
returns-then-s-eq0 c = rw (eq-eqb _ 0 c.before.if-s-eq0.true)

pub returns-else-s-eq0 : goal.returns-else-s-eq0
unfolding is_empty
returns-else-s-eq0 c = rw (ne_eqb _ 0 c.if-s-eq0.false)
