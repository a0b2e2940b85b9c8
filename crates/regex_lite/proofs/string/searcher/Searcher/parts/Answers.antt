use Rattle.regex_lite.proofs.Common.{subst, RegexSearching}
use Rattle.regex_lite.specs.Compiled.{SharesGroups}
use Rattle.regex_lite.proofs.string.searcher.Searcher.parts.Goals as goal

pub returns-clause-ok : goal.returns-clause-ok
returns-clause-ok c =
    subst (λ (own : RegexSearching). SharesGroups own.regex c.in_ok-source.source) c.self.view_is
    c.in_ok-source.ensures
