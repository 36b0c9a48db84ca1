-- `rules::rules::judge_copy` meets its contract. Assumes nothing.
use Prim.Native.Nat.{ℕ}
use mathlib.Core.Path.{◌≡◌, sym, ap, ◌∙◌}
use mathlib.Core.Bool.{true}
use Rattle.syntax.specs.Result.{◌>>=◌}
use Rattle.statics.specs.Follow.{value_whole}
use Rattle.statics.specs.Uses.{Unfinished}
use Rattle.statics.specs.Bars.{read_barred}
use Rattle.statics.specs.Rules.{judge_copy}
use Rattle.variables.specs.Table.{environment_of, as_place}
use Rattle.rules.specs.RuleAnswers.{Named, Read}
use Rattle.rules.proofs.PlaceLaws.{whole_at, read_at, read_refused, copy_refused, copy_number}
use Rattle.rules.proofs.LentLaws.{copy_asks, copy_lent}
use Rattle.variables.specs.Verdicts.{answered}
use Rattle.variables.proofs.QuestionLaws.{left_with}
use Rattle.rules.proofs.rules.judge_copy.Goals as goal
use Rattle.rules.proofs.rules.judge_copy.Goals.{In_ok-rest}

-- Where the place is readable.
module _ (k : In_ok-rest) where
  abbrev rest : ℕ
  rest = k.in_ok-rest.rest

  -- Its value is whole, whatever was told of bars.
  named : (F : Named (environment_of k.args.env.now) (as_place k.args.place) rest)
      × (value_whole k.args.variables (environment_of k.args.env.now) (as_place k.args.place).root F.variable ≡ true)
  named = whole_at _ _ _ k.judge_readable.ensures.1 k.in_ok-rest.was

  read : (i : ℕ) (ns : Unfinished) → k.args.barred ≡ read_barred k.args.variables ns (environment_of k.args.env.now) (as_place k.args.place).root
      → Read k.args.variables ns (environment_of k.args.env.now) i (as_place k.args.place) rest
  read i ns barred = read_at _ ns _ i _ (k.judge_readable.ensures.0 i ns barred) k.in_ok-rest.was

pub returns-then-not-is_copied : goal.returns-then-not-is_copied
returns-then-not-is_copied c =
    λ i ns barred. sym (copy_refused _ _ c.requires i _ (read (goal.at.returns-then-not-is_copied c).In_ok-rest i ns barred) (sym c.is_copied.ensures ∙ c.if-not-is_copied.true))

pub returns-then-is_number : goal.returns-then-is_number
returns-then-is_number c =
    λ i ns barred. c.number_value.ensures _ i
    ∙ sym (copy_number _ _ c.requires i _ (read (goal.at.returns-then-is_number c).In_ok-rest i ns barred) (sym c.is_copied.ensures ∙ c.if-not-is_copied.false) (sym c.is_number.ensures ∙ c.if-is_number.true))

pub lent_at-roots-requires : goal.lent_at-roots-requires
lent_at-roots-requires c =
    let there = named (goal.at.lent_at-roots-requires c).In_ok-rest in (
      c.requires,
      copy_asks _ _ c.requires _ there.0 _ c.index_of-root.ensures _ c.index_of.ensures there.1 (sym c.is_copied.ensures ∙ c.if-not-is_copied.false) (sym c.is_number.ensures ∙ c.if-is_number.false),
    )

pub returns-in_err-rest : goal.returns-in_err-rest
unfolding judge_copy ◌>>=◌
returns-in_err-rest c =
    let env = c.args.env.now in
    λ i ns barred.
    let refused = read_refused c.args.variables ns (environment_of env) i (as_place c.args.place) (c.judge_readable.ensures.0 i ns barred) c.in_err-rest.was in
    ap (answered _ i) (left_with _ _ c.from_residual.ensures.1) ∙ rw refused

pub returns : goal.returns
returns c =
    λ i ns barred. c.value_of.ensures _ i
    ∙ sym (copy_lent _ _ c.requires i _ (read (goal.at.returns c).In_ok-rest i ns barred) _ c.index_of-root.ensures _ c.index_of.ensures (sym c.is_copied.ensures ∙ c.if-not-is_copied.false) _ (c.lent_at-roots.ensures i))
