use Rattle.regex_lite_c.proofs.Common.{sym, refl}
use Rattle.std.proofs.lemmas.Fn.{gave_at}
use Rattle.regex_lite_c.proofs.buffer.write_from.Goals as goal

pub returns-clause-found : goal.returns-clause-found
returns-clause-found g c =
    rw c.in-Some.ensures.taken (
      c.find.result,
      rw (sym c.deref.ensures) (gave_at g.F.FnOnce c.find.ensures refl),
      c.write_found-answer.ensures,
    )
