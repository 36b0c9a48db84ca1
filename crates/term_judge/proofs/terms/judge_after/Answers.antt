-- `term_judge::terms::judge_after` meets its contract. Assumes nothing.
use native.Mathlib.Omega.{arith}
use mathlib.Core.Path.{◌≡◌, sym, ap, ◌∙◌}
use Rattle.syntax.specs.declared.kinds.Kind.{Kind}
use Rattle.syntax.specs.declared.kinds.Kind.TheVariants as kind
use Rattle.syntax.specs.Result.{ok, ◌>>=◌}
use Rattle.syntax.specs.KindNumbers.{number_in}
use Rattle.syntax.specs.RowParts.{field_at}
use Rattle.variables.specs.Masks.{has}
use Rattle.variables.proofs.QuestionLaws.{left_with}
use Rattle.term_judge.specs.JudgeRows.{told_as, ended, after_at}
use Rattle.uses.specs.RowUses.{later_of}
use Rattle.uses.proofs.KindNames.{wraps_kind, same_number}
use Rattle.term_judge.proofs.LaterLaws.{after_later}
use Rattle.term_judge.proofs.JudgeLaws.{told_ended}
use Rattle.term_judge.proofs.AroundLaws.{after_box, after_let, after_assign, last_wraps}
use Rattle.term_judge.proofs.terms.judge_after.Goals as goal
use Rattle.term_judge.proofs.terms.judge_after.Goals.{In-Ok, in-Box, in-Let, in_default-kind}

pub returns-in_err-inner : goal.returns-in_err-inner
unfolding ◌>>=◌
returns-in_err-inner c = (ap (ended _) (left_with _ _ c.from_residual.ensures.1) ∙ rw c.in_err-inner.was, c.requires.2)

pub field_at-requires : goal.field_at-requires
field_at-requires c =
    ((last_wraps _ _ _ _ c.requires.0 c.requires.1).room, omega arith)

pub unreachable-requires : goal.unreachable-requires
unreachable-requires c = c.in_default.ensures (wraps_kind _ (rw c.field_at.ensures (last_wraps _ _ _ _ c.requires.0 c.requires.1).kind))

-- Where the kind is known: what the row's number says of it.
module _ (k : In-Ok) where
  kind_number : (j : Kind) → k.in-Ok.kind ≡ j → field_at k.args.script.now.rows.now k.args.around.now.end 0 ≡ number_in j
  kind_number j e =
      let read : number_in k.in-Ok.kind ≡ k.field_at.result = k.in-Ok.ensures in
      sym k.field_at.ensures ∙ sym read ∙ ap number_in e

  other_number : (j : Kind) → (k.in-Ok.kind ≡ j → ⊥) → field_at k.args.script.now.rows.now k.args.around.now.end 0 ≡ number_in j → ⊥
  other_number j h q =
      let read : number_in k.in-Ok.kind ≡ k.field_at.result = k.in-Ok.ensures in
      h (same_number k.in-Ok.kind j (read ∙ k.field_at.ensures ∙ q))

pub index_at-x-requires : goal.index_at-x-requires
index_at-x-requires c =
    ((last_wraps _ _ _ _ c.requires.0 c.requires.1).room, omega arith)

pub judge_let-verdict-requires : goal.judge_let-verdict-requires
judge_let-verdict-requires c =
    let ready = c.requires.4 in
    let was = c.in_ok-inner.was in
    let k = kind_number (goal.at.judge_let-verdict-requires c).In-Ok kind.Let c.in-Let.is in
    let x = c.index_at-x.ensures in
    ((c.requires.2, (_, ready.neat _ was)), omega (arith, x, (last_wraps _ _ _ _ c.requires.0 c.requires.1).number (λ e. absurd (omega (arith, k, e)))), rw x (ready.taken _ was k), ready.value _ was)

pub judge_assign-verdict-requires : goal.judge_assign-verdict-requires
judge_assign-verdict-requires c =
    ((c.requires.2, (_, c.requires.4.neat _ c.in_ok-inner.was)), c.requires.3, c.requires.0, c.requires.1, (last_wraps _ _ _ _ c.requires.0 c.requires.1).number (other_number (goal.at.judge_assign-verdict-requires c).In-Ok kind.Box c.in_default-kind.not-Box))

pub returns : goal.returns
returns c =
    let later = later_of c.args.script.now c.args.around.now in
    let k = (goal.at.returns c).In-Ok in
    let fine : ok (told_as c.args.env.now c.in_ok-inner.inner) ≡ ended c.args.env.now c.args.inner = ap (ended c.args.env.now) (sym c.in_ok-inner.was) in
    let after = after_at c.args.script.now.variables c.args.level c.args.script.now.rows.now c.args.around.now.end later in
    (elim c.match-kind.branch [
      | in-Box w ↦ (after_box _ _ _ _ later _ _ _ _ (kind_number k kind.Box w.in-Box.is) (told_ended _ _ _ _ _ c.judged_term.ensures _ (rw (w.verdict-is, w.env-is) (w.judge_box-verdict.ensures _ _ _))) ∙ ap after fine, rw w.env-is c.requires.2)
      | in-Let w ↦ (after_let _ _ _ _ later _ _ _ _ (kind_number k kind.Let w.in-Let.is) _ w.index_at-x.ensures (told_ended _ _ _ _ _ c.judged_term.ensures _ (rw (w.verdict-is, w.env-is) (w.judge_let-verdict.ensures.0 _))) ∙ ap after fine, rw w.env-is w.judge_let-verdict.ensures.1)
      | in_default-kind w ↦ (after_assign _ _ _ _ later _ _ _ _ (last_wraps _ _ _ _ c.requires.0 c.requires.1) (other_number k kind.Box w.in_default-kind.not-Box) (other_number k kind.Let w.in_default-kind.not-Let) (told_ended _ _ _ _ _ c.judged_term.ensures _ (rw (w.verdict-is, w.env-is) (w.judge_assign-verdict.ensures.0 _ (after_later _ c.args.script.now.rows.now c.args.script.now.uses.now (has c.args.around.now.named) _ _ c.requires.0 c.in_ok-inner.inner.next)))) ∙ ap after fine, rw w.env-is w.judge_assign-verdict.ensures.1)
    ])
