use Rattle.regex_lite_c.proofs.Common.{sym}
use Rattle.regex_lite_c.proofs.replace.regex_lite_replace.Goals as goal

pub returns-clause-answer : goal.returns-clause-answer
returns-clause-answer c =
    rw c.in-Some.ensures.taken (rw (sym c.deref.ensures) c.replace-answer.ensures.answer)
