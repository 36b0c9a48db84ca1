-- What a `?` answers where it leaves a function, whose errors are of the same type.
use Rattle.std.proofs.Common.{◌≡◌, ap, ◌∙◌, Result, Err}
use Rattle.std.specs.Result.{IsErrAnd}
use Rattle.std.proofs.lemmas.Result.{err_from_is_err_and}

pub left_with : {T E : Type 0} (r : Result T E) (x : E) → IsErrAnd r (λ y. y ≡ x) → r ≡ Err x
left_with r x h = let p = err_from_is_err_and r h in p.1 ∙ ap Err p.2
