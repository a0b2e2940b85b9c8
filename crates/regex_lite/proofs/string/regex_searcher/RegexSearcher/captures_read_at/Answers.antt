use Rattle.regex_lite.proofs.Common.{Some, sym, subst, Expression, TellsMatch, TellsLocations}
use Rattle.regex_lite.proofs.string.regex_searcher.RegexSearcher.captures_read_at.Goals as goal

pub returns-clause-found : goal.returns-clause-found
returns-clause-found c =
    let a = c.args in
    let found = c.in_ok-found.found in
    let same = c.find_at.ensures.same in
    subst (λ (re : Expression).
    TellsLocations re a.haystack.now a.start c.read.new.locs (Some found)) same
    (c.read.ensures.locations a.start
    (subst (λ (re : Expression). TellsMatch re a.haystack.now a.start (Some found)) (sym same)
    c.in_ok-found.ensures.found))
