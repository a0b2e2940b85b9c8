use Rattle.regex_lite.proofs.Common.{List, subst, Expression, TellsMatchOfList}
use Rattle.regex_lite.proofs.string.ListKeptLemmas.{list_match}
use Rattle.regex_lite.proofs.string.list.kept.RegexListSearcher.find_at.Goals as goal

pub returns-clause-found : goal.returns-clause-found
returns-clause-found c =
    let a = c.args in
    let matches = c.self.inside.matches in
    subst (λ (list : List Expression). TellsMatchOfList list a.haystack.now a.start
    c.match_at.result) c.self.view_is
    (list_match matches.list a.haystack.now a.start c.match_at.new.finder.slots c.match_at.result
    c.match_at.ensures.found)
