use Rattle.regex_lite_c.proofs.Common.{sym}
use Rattle.regex_lite_c.proofs.whole.regex_lite_full_captures.Goals as goal

pub returns-clause-answer : goal.returns-clause-answer
returns-clause-answer c =
    rw c.in-Some.ensures.taken (rw (sym c.deref.ensures) c.captures-answer.ensures)
