-- What a `?` hands on: the same reason.
use mathlib.Core.Path.{◌≡◌, ap, ◌∙◌}
use Rattle.std.specs.Prelude.{Result, Err}
use Rattle.std.specs.Result.{IsErr, IsErrAnd}
use Rattle.std.proofs.lemmas.Result.{err_from_is_err_and}

pub again : {A E : Type 0} (e : E) (r : Result A E) → IsErr r × IsErrAnd r (λ x. x ≡ e) → r ≡ Err e
again e r h = let z = err_from_is_err_and r h.1 in z.1 ∙ ap Err z.2
