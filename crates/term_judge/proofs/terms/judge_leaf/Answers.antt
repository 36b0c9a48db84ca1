-- `term_judge::terms::judge_leaf` meets its contract. Assumes nothing.
use Rattle.uses.proofs.KindNames.{kind_read, no_kind}
use Rattle.term_judge.specs.JudgeRows.{judge_leaf}
use Rattle.term_judge.proofs.terms.judge_leaf.Goals as goal

pub judge_kind-requires : goal.judge_kind-requires
judge_kind-requires c =
    let p = c.requires in
    (p.0, p.1, p.2, λ x h. p.3 x (rw (kind_read c.in-Ok.kind c.in-Ok.ensures) h))

pub returns-in-Ok : goal.returns-in-Ok
returns-in-Ok c = (λ ns later. rw (kind_read c.in-Ok.kind c.in-Ok.ensures) (c.judge_kind.ensures.0 ns later), c.judge_kind.ensures.1)

pub returns-in-Err : goal.returns-in-Err
unfolding judge_leaf
returns-in-Err c = (λ ns later. rw (no_kind c.args.kind c.in-Err.ensures) (c.number_value.ensures _ _), c.requires.0.0)
