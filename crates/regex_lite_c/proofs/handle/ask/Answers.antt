use Rattle.regex_lite_c.proofs.Common.{sym, refl}
use Rattle.std.proofs.lemmas.Fn.{gave_at}
use Rattle.regex_lite_c.proofs.handle.ask.Goals as goal

pub returns-clause-said : goal.returns-clause-said
returns-clause-said g c =
    rw c.in-Some.ensures.taken
    (rw (sym c.deref.ensures) (gave_at g.F.FnOnce c.say-said.ensures refl))
