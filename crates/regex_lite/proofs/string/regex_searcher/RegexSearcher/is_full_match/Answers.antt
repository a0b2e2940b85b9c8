use Rattle.regex_lite.proofs.Common.{inr, IsCharBoundary-start}
use Rattle.regex_lite.proofs.Common.{◌↔◌, IsTrue, length, subst, Expression}
use Rattle.regex_lite.specs.MatchOffsets.{MatchesSpan}
use Rattle.regex_lite.proofs.string.WholeLemmas.{has_reported_whole}
use Rattle.regex_lite.proofs.string.regex_searcher.RegexSearcher.is_full_match.Goals as goal

pub returns-clause-found : goal.returns-clause-found
returns-clause-found c =
    let reported = c.is_match_anchored in
    let bytes = c.args.haystack.now in
    subst (λ (re : Expression). IsTrue reported.result ↔ MatchesSpan re bytes (0, length bytes))
    c.self.view_is (has_reported_whole bytes c.utf8.haystack _ reported.result
    reported.ensures.found)

pub is_match_anchored-requires : goal.is_match_anchored-requires
is_match_anchored-requires c = inr (IsCharBoundary-start _ c.utf8.haystack)
