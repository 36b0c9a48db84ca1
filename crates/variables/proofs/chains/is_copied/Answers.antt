-- `variables::chains::is_copied` meets its contract. Assumes nothing.
use Rattle.std.proofs.Common.{◌∙◌}
use Rattle.variables.proofs.ChainLaws.{same_shared, copies_none, copies_first}
use Rattle.variables.proofs.chains.is_copied.Goals as goal

pub returns-in-None : goal.returns-in-None
returns-in-None c = rw c.in-None.ensures copies_none

pub returns-in-Some : goal.returns-in-Some
returns-in-Some c = rw c.in-Some.ensures.0 (c.eq.ensures ∙ same_shared c.in-Some.link ∙ copies_first c.in-Some.link _)
