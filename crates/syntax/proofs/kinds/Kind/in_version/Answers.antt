-- `syntax::kinds::Kind::in_version` meets its contract. Assumes nothing.
use mathlib.Core.Path.{sym, ◌∙◌}
use Rattle.syntax.proofs.KnownKinds.{known_is}
use Rattle.syntax.proofs.kinds.Kind.in_version.Goals as goal

pub unreachable-requires : goal.unreachable-requires
unreachable-requires c = c.in_default.ensures (known_is _ _ (sym c.known.ensures ∙ c.if-not-known.false)).0
