-- `rules::rules::judge_block_end` meets its contract. Assumes nothing.
use mathlib.Core.Path.{◌∙◌}
use Rattle.syntax.specs.Result.{need, ◌>>=◌}
use Rattle.statics.specs.Rules.{judge_block_end}
use Rattle.rules.proofs.ValueLaws.{value_lives, block_left}
use Rattle.paths.proofs.LeavingLaws.{around_in}
use Rattle.rules.proofs.rules.judge_block_end.Goals as goal

pub returns-then-not-lives_at : goal.returns-then-not-lives_at
unfolding judge_block_end need ◌>>=◌
returns-then-not-lives_at c =
    let short = value_lives _ c.args.variables _ _ _ _ c.roots_in.ensures c.lives_at.ensures ∙ c.if-not-lives_at.true in
    (λ i. rw short, c.requires.0)

pub leave_blocks-requires : goal.leave_blocks-requires
leave_blocks-requires c = (c.requires.0, around_in c.args.env.now _ c.args.level c.requires.1)

pub returns : goal.returns
returns c =
    let long = value_lives _ c.args.variables _ _ _ _ c.roots_in.ensures c.lives_at.ensures ∙ c.if-not-lives_at.false in
    let left = c.leave_blocks.ensures.0 _ c.requires.1 in
    (λ i. block_left _ _ c.leave_blocks.ensures.2 _ _ i _ long left, c.leave_blocks.ensures.1)
