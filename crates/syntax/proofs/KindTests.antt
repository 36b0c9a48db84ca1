-- Tests of the code's kinds, as tests of their kind bytes.
use mathlib.Core.Path.{◌≡◌, refl}
use lib.Dec.{eqb}
use denote.Enum.Bare.{sameb}
use Rattle.syntax.specs.KindNumbers.{number_in}
use Rattle.syntax.specs.declared.kinds.Kind as code
use Rattle.syntax.specs.declared.kinds.Kind.TheVariants as kind
use Rattle.syntax.specs.contracts.kinds.Kind.{the_type}

pub box_test : (k : code.Kind) → sameb the_type k kind.Box ≡ eqb (number_in k) 7
box_test kind.Number = refl
box_test kind.Reading = refl
box_test kind.Copy = refl
box_test kind.Move = refl
box_test kind.Shared = refl
box_test kind.Exclusive = refl
box_test kind.Box = refl
box_test kind.Let = refl
box_test kind.Assign = refl
box_test kind.Below = refl
box_test kind.Block = refl
box_test kind.Choice = refl
box_test kind.Sum = refl

pub block_test : (k : code.Kind) → sameb the_type k kind.Block ≡ eqb (number_in k) 11
block_test kind.Number = refl
block_test kind.Reading = refl
block_test kind.Copy = refl
block_test kind.Move = refl
block_test kind.Shared = refl
block_test kind.Exclusive = refl
block_test kind.Box = refl
block_test kind.Let = refl
block_test kind.Assign = refl
block_test kind.Below = refl
block_test kind.Block = refl
block_test kind.Choice = refl
block_test kind.Sum = refl
