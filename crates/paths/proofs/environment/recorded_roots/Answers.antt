-- `paths::environment::recorded_roots` meets its contract. Assumes nothing.
use Rattle.variables.proofs.EndLaws.{recorded_by}
use Rattle.paths.proofs.environment.recorded_roots.Goals as goal

pub returns : goal.returns
returns c = recorded_by _ _ _ _ c.borrow_end_of.ensures c.end_roots.ensures
