-- `store::store::clear` meets its contract. Assumes nothing.
use Rattle.syntax.specs.Layout.{zeros}
use Rattle.store.proofs.store.clear.Goals as goal

pub returns : goal.returns
unfolding zeros
returns c = c.fill.ensures.after (λ y h. h)
