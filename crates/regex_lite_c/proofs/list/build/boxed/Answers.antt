use Rattle.std.proofs.lemmas.Result.{err_from_is_err_and}
use Rattle.regex_lite_c.proofs.list.build.boxed.Goals as goal

pub returns-in_err-list-clause-refused : goal.returns-in_err-list-clause-refused
returns-in_err-list-clause-refused c =
    let left = err_from_is_err_and c.from_residual.result c.from_residual.ensures.1 in
    rw (left.1, left.2) c.in_err-list.ensures
