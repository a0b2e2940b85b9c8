use Rattle.regex_lite.proofs.Common.{Some, subst, Expression, TellsMatch}
use Rattle.regex_lite.proofs.string.KeptLemmas.{match_answered}
use Rattle.regex_lite.proofs.string.regex_searcher.RegexSearcher.find_at.Goals as goal

pub returns-clause-found : goal.returns-clause-found
returns-clause-found c =
    let a = c.args in
    subst (λ (re : Expression). TellsMatch re a.haystack.now a.start (Some c.in_ok-found.found))
    c.self.view_is
    (match_answered c.self.inside.matches.regex a.haystack.now a.start
    c.match_at.new.finder.slots (Some (tt, c.in_ok-found.found)) c.in_ok-found.ensures.found)
