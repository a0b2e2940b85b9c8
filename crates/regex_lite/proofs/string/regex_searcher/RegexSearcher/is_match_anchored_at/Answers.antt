use Rattle.regex_lite.proofs.Common.{◌↔◌, IsTrue, subst, Expression}
use Rattle.regex_lite.specs.MatchOffsets.{MatchesAt}
use Rattle.regex_lite.proofs.string.AnchoredLemmas.{has_reported_there}
use Rattle.regex_lite.proofs.string.regex_searcher.RegexSearcher.is_match_anchored_at.Goals as goal

pub returns-clause-found : goal.returns-clause-found
returns-clause-found c =
    let reported = c.is_match_anchored in
    let bytes = c.args.haystack.now in
    subst (λ (re : Expression). IsTrue reported.result ↔ MatchesAt re bytes c.args.start)
    c.self.view_is
    (has_reported_there bytes c.utf8.haystack c.args.start c.requires _ reported.result
    reported.ensures.found)
