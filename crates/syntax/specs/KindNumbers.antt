-- The code's kinds (LANGUAGE 2.3): their kind bytes, and the definitions' kinds that they are.
use Rattle.std.specs.Prelude.{ℕ, ◌≡◌, true, false, Option, MatchOption, Result, MatchResult}
use Rattle.syntax.specs.declared.kinds.Kind as code
use Rattle.syntax.specs.declared.kinds.Kind.TheVariants as kind
use Rattle.syntax.specs.declared.kinds.UnknownKind.{UnknownKind}
use Rattle.syntax.specs.Kinds.{Kind, k_number, k_reading, k_copy, k_move, k_shared, k_exclusive, k_box, k_let, k_assign, k_below, k_block, k_choice, k_sum}
use Rattle.syntax.specs.Parts.{IsKind, known_in}

abbrev pub number_in : code.Kind → ℕ
number_in kind.Number = 1
number_in kind.Reading = 2
number_in kind.Copy = 3
number_in kind.Move = 4
number_in kind.Shared = 5
number_in kind.Exclusive = 6
number_in kind.Box = 7
number_in kind.Let = 8
number_in kind.Assign = 9
number_in kind.Below = 10
number_in kind.Block = 11
number_in kind.Choice = 12
number_in kind.Sum = 13

abbrev pub as_kind : code.Kind → Kind
as_kind kind.Number = k_number
as_kind kind.Reading = k_reading
as_kind kind.Copy = k_copy
as_kind kind.Move = k_move
as_kind kind.Shared = k_shared
as_kind kind.Exclusive = k_exclusive
as_kind kind.Box = k_box
as_kind kind.Let = k_let
as_kind kind.Assign = k_assign
as_kind kind.Below = k_below
as_kind kind.Block = k_block
as_kind kind.Choice = k_choice
as_kind kind.Sum = k_sum

-- The kind with this kind byte, or no kind has it.
abbrev pub KindRead : ℕ → Result code.Kind UnknownKind → Type 0
KindRead n r = MatchResult r (λ k. number_in k ≡ n) (λ e. IsKind n → ⊥)

-- The kind with this kind byte, or the version has none with it.
abbrev pub KindIn : ℕ → ℕ → Option code.Kind → Type 0
KindIn v n r = MatchOption r (known_in v n ≡ false) (λ k. (number_in k ≡ n) × (known_in v n ≡ true))
