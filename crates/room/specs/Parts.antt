-- What the parts of `run` and of `call` ask and answer. No rule of the language is stated here.
use Rattle.std.specs.Prelude.{ℕ, ◌≡◌, List, ℤ, length}
use Rattle.syntax.specs.Result.{ok}
use Rattle.syntax.specs.Limits.{Limits, store_numbers}
use Rattle.dynamics.specs.Answers as unchecked
use Rattle.ownership.specs.Answers.{check_of}
use Rattle.room.specs.Running.{RunAnswer, answered, refused}

-- The machine's answer, as that of a run which is checked first.
unfoldable pub of_unchecked : unchecked.Answer → RunAnswer
of_unchecked (unchecked.answered a c) = answered a c
of_unchecked (unchecked.refused n p) = refused n p
of_unchecked (unchecked.faulted n i) = refused n i

-- What the run of accepted rows asks: that the check accepts them, and the lengths of the rest.
pub record RunAccepted (l : Limits) (rows : List ℕ) (readings : List ℤ) (store : List ℕ) : Type 0 where
  pub terms : ℕ
  pub accepted : check_of l rows ≡ ok terms
  pub eight : length readings ≡ 8
  pub size : length store ≡ store_numbers l
