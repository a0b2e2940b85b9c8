use Rattle.regex_lite_c.proofs.Common.{sym}
use Rattle.regex_lite_c.proofs.list.search.regex_lite_list_find_counted.Goals as goal

pub returns-clause-answer : goal.returns-clause-answer
returns-clause-answer c =
    rw c.in-Some.ensures.taken (rw (sym c.deref.ensures) c.find_counted-answer.ensures.answer)
