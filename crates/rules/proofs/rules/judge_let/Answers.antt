-- `rules::rules::judge_let` meets its contract. Assumes nothing.
use Rattle.syntax.specs.Result.{◌>>=◌}
use Rattle.statics.specs.Rules.{valued, judge_let}
use Rattle.rules.proofs.ValueLaws.{let_fits, unrecorded, let_there}
use Rattle.rules.proofs.rules.judge_let.Goals as goal

pub returns-in_default : goal.returns-in_default
unfolding judge_let valued ◌>>=◌
returns-in_default c =
    (λ i. rw c.in_default.is, c.requires.0.0)

pub declare-requires : goal.declare-requires
declare-requires c =
    let env = c.args.env.now in (
      c.requires.0.0,
      c.requires.1,
      c.requires.2,
      let_fits env _ _ c.args.level _ c.nothing_moved.ensures c.borrow_end_of.ensures,
      unrecorded env _ _ _ _ c.nothing_moved.ensures c.borrow_end_of.ensures _ _ _ _ c.requires.0.1.1 c.requires.2 c.in-Some.is c.requires.3,
    )

pub returns : goal.returns
returns c = (
  λ i.
      let_there c.args.env.now _ _ _ _ c.nothing_moved.ensures c.borrow_end_of.ensures _ _ i _ _ c.in-Some.is c.declare.ensures.0,
  c.declare.ensures.1,
)
