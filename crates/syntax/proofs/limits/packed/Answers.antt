-- `syntax::limits::packed` meets its contract. Assumes nothing.
use mathlib.Core.Path.{refl}
use Rattle.syntax.proofs.Ranges.{packs, packs_below}
use Rattle.syntax.proofs.limits.packed.Goals as goal

pub returns : goal.returns
returns c =
    let ranged = c.before.before.before.before.requires in
    (packs _ ranged _ refl, packs_below _ ranged _ refl)
