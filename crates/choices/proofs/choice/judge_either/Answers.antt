-- `choices::choice::judge_either` meets its contract. Assumes nothing.
use borrow.Author.Tests.{ne_eqb}
use Rattle.syntax.specs.Result.{need, ◌>>=◌}
use Rattle.statics.specs.Choice.{agreeing}
use Rattle.variables.proofs.EqualChains.{same_links_law}
use Rattle.choices.proofs.KeptLaws.{joins}
use Rattle.choices.proofs.choice.judge_either.Goals as goal

pub returns-in-None-None : goal.returns-in-None-None
unfolding agreeing need ◌>>=◌
returns-in-None-None c = λ env i. rw (c.in-None-None.is-0, c.in-None-None.is-1)

pub returns-in-Some-Some : goal.returns-in-Some-Some
returns-in-Some-Some c = joins _ _ _ _ _ _ c.in-Some-Some.is-0 c.in-Some-Some.is-1 c.if-one-other.true c.unite.ensures c.value_of.ensures

pub returns-in_default : goal.returns-in_default
unfolding agreeing need ◌>>=◌
returns-in_default c = λ env i. rw (c.in_default.is-0, c.in_default.is-1)

pub returns-in_default-2 : goal.returns-in_default-2
unfolding agreeing need ◌>>=◌
returns-in_default-2 c = λ env i. rw (c.in-Some-Some.is-0, c.in-Some-Some.is-1, same_links_law _ _, ne_eqb _ _ c.if-one-other.false)

pub returns-in_default-3 : goal.returns-in_default-3
unfolding agreeing need ◌>>=◌
returns-in_default-3 c = λ env i. rw (c.in_default.is-0, c.in_default.is-1)
