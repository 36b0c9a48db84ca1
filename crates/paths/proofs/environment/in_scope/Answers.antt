-- `paths::environment::in_scope` meets its contract. Assumes nothing.
use native.Mathlib.Numerals.{add-one}
use mathlib.Core.Path.{refl}
use Rattle.paths.proofs.environment.in_scope.Goals as goal

pub returns : goal.returns
returns c = simp add-one refl
