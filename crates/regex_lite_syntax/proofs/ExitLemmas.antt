-- What the exit of a `?` returns.
use Rattle.regex_lite_syntax.proofs.Common.{◌≡◌, IfErr, Result}
use Rattle.std.specs.Prelude.{IsErrAnd}
use Rattle.std.proofs.lemmas.Result.{err_from_is_err_and}

-- what holds of the error that was passed on holds of the error that is returned
pub at_exit : {T E : Type 0} {e : E} (r : Result T E) (P : E → Type 0)
    → IsErrAnd r (λ y. y ≡ e) → P e → IfErr r P
at_exit r P is says = let left = err_from_is_err_and r is in rw (left.1, left.2) says
