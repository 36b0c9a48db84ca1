-- `rules::rules::judge_number` meets its contract. Assumes nothing.
use Prim.Native.Nat.{ℕ}
use mathlib.Core.Path.{◌≡◌}
use Rattle.syntax.specs.Result.{need, ◌>>=◌}
use Rattle.statics.specs.Uses.{Unfinished}
use Rattle.statics.specs.Bars.{read_barred}
use Rattle.statics.specs.Rules.{judge_number}
use Rattle.variables.specs.Table.{environment_of, as_place}
use Rattle.rules.specs.RuleAnswers.{Read}
use Rattle.rules.proofs.PlaceLaws.{read_at, number_refused}
use Rattle.variables.proofs.QuestionLaws.{left_with}
use Rattle.rules.proofs.rules.judge_number.Goals as goal
use Rattle.rules.proofs.rules.judge_number.Goals.{In_ok-rest}

-- What is known of a readable place.
read : (k : In_ok-rest) (i : ℕ) (ns : Unfinished) → k.args.barred ≡ read_barred k.args.variables ns (environment_of k.args.env.now) (as_place k.args.place).root
    → Read k.args.variables ns (environment_of k.args.env.now) i (as_place k.args.place) k.in_ok-rest.rest
read k i ns barred = read_at _ ns _ i _ (k.judge_readable.ensures.0 i ns barred) k.in_ok-rest.was

pub returns-then-not-is_number : goal.returns-then-not-is_number
unfolding judge_number need ◌>>=◌
returns-then-not-is_number c =
    λ i ns barred.
    let F = read (goal.at.returns-then-not-is_number c).In_ok-rest i ns barred in
    rw (F.is, F.named.after, ← c.is_number.ensures, c.if-not-is_number.true)

pub returns-in_err-rest : goal.returns-in_err-rest
returns-in_err-rest c =
    let env = c.args.env.now in
    let left = left_with _ _ c.from_residual.ensures.1 in
    λ i ns barred. rw left (number_refused c.args.variables ns (environment_of env) i (as_place c.args.place) (c.judge_readable.ensures.0 i ns barred) c.in_err-rest.was)

pub returns : goal.returns
unfolding judge_number need ◌>>=◌
returns c =
    λ i ns barred.
    let F = read (goal.at.returns c).In_ok-rest i ns barred in
    rw (F.is, F.named.after, ← c.is_number.ensures, c.if-not-is_number.false)
