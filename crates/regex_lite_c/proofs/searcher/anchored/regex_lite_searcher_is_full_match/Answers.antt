use Rattle.regex_lite_c.proofs.Common.{sym}
use Rattle.regex_lite_c.proofs.searcher.anchored.regex_lite_searcher_is_full_match.Goals as goal

pub returns-clause-answer : goal.returns-clause-answer
returns-clause-answer c =
    rw c.in-Some.ensures.taken
    (rw (sym c.deref_mut.ensures.value) c.is_full_match-answer.ensures.answer)
