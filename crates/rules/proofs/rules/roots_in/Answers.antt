-- `rules::rules::roots_in` meets its contract. Assumes nothing.
use Rattle.rules.proofs.ValueLaws.{roots_none, roots_of}
use Rattle.rules.proofs.rules.roots_in.Goals as goal

pub returns-in-None : goal.returns-in-None
returns-in-None c = roots_none _ _ c.in-None.is c.no_roots.ensures

pub returns-in-Some : goal.returns-in-Some
returns-in-Some c =
    roots_of _ _ _ c.in-Some.is c.recorded_roots.ensures
