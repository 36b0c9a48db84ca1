-- `choices::choice::numbers_taken` meets its contract. Assumes nothing.
use mathlib.Core.Path.{refl}
use native.Mathlib.Numerals.{add-one}
use Rattle.choices.proofs.choice.numbers_taken.Goals as goal

pub returns : goal.returns
returns c = simp add-one refl
