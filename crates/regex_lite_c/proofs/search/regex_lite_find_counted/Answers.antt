use Rattle.regex_lite_c.proofs.Common.{sym}
use Rattle.regex_lite_c.proofs.search.regex_lite_find_counted.Goals as goal

pub returns-clause-answer : goal.returns-clause-answer
returns-clause-answer c =
    rw c.in-Some.ensures.taken (rw (sym c.deref.ensures) c.find_counted-answer.ensures.answer)

pub returns-clause-cost : goal.returns-clause-cost
returns-clause-cost c = λ reported.
    rw c.in-Some.ensures.taken
    (rw (sym c.deref.ensures) (c.find_counted-answer.ensures.cost reported))
