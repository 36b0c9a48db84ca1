-- Larger sets of limits (LANGUAGE 2.8, 7.7), said of scripts as trees: what is accepted under a set is accepted under every set that is nowhere
-- smaller, and its run is the same.
use Rattle.std.specs.Prelude.{ℕ, ◌≡◌}
use Rattle.syntax.specs.Result.{ok}
use Rattle.syntax.specs.Limits.{Limits}
use Rattle.syntax.specs.Larger.{NoSmaller}
use Rattle.syntax.specs.Script.{Term}
use Rattle.syntax.specs.Within.{Within}
use Rattle.statics.specs.Judge.{judge_script}
use Rattle.dynamics.specs.Store.{Store}
use Rattle.safety.specs.Safety.{Safe}

-- The judge says the same of a script within the smaller set, accepted or not: the number and the term of a refusal do not change.
abbrev pub SameVerdict : Limits → Limits → Type 0
SameVerdict l m = (t : Term) → Within l t → judge_script m.variables t ≡ judge_script l.variables t

-- The run is safe under both sets and ends with the same answer in the same state, and so with the same cells taken, whatever the two stores
-- were before.
pub record SameEnd (l m : Limits) (t : Term) (readings : ℕ → ℕ) (earlier earlier' : Store) : Type 0 where
  pub smaller : Safe l t readings earlier
  pub larger : Safe m t readings earlier'
  pub answer : larger.answer ≡ smaller.answer
  pub final : larger.final ≡ smaller.final

-- What is said of a script t that is accepted under l.
pub record StaysAccepted (l m : Limits) (t : Term) : Type 0 where
  pub within : Within m t
  pub judged : judge_script m.variables t ≡ ok tt
  pub same_end : (readings : ℕ → ℕ) (earlier earlier' : Store) → SameEnd l m t readings earlier earlier'

-- For every set m that is nowhere smaller than l, every script that the check accepts under l (LANGUAGE 3.30), all readings, and any stores.
pub record Larger (l m : Limits) : Type 0 where
  pub verdict : SameVerdict l m
  pub stays : (t : Term) → Within l t → judge_script l.variables t ≡ ok tt → StaysAccepted l m t

abbrev pub LargerSets : Type 0
LargerSets = (l m : Limits) → NoSmaller l m → Larger l m
