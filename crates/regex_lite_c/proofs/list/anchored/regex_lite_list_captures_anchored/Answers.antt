use Rattle.regex_lite_c.proofs.Common.{sym}
use Rattle.regex_lite_c.proofs.list.anchored.regex_lite_list_captures_anchored.Goals as goal

pub returns-clause-answer : goal.returns-clause-answer
returns-clause-answer c =
    rw c.in-Some.ensures.taken (rw (sym c.deref.ensures) c.captures-answer.ensures)
