use Rattle.regex_lite.proofs.Common.{◌↔◌, IsTrue, inr, subst, AnyMatches, IsCharBoundary-start}
use Rattle.regex_lite.specs.Scanning.{ListSearching}
use Rattle.regex_lite.proofs.string.ListReportedLemmas.{any_reported}
use Rattle.regex_lite.proofs.string.list.searcher.ListSearcher.is_match.Goals as goal

pub search_any-requires : goal.search_any-requires
search_any-requires c = inr (IsCharBoundary-start _ c.utf8.haystack)

pub returns-clause-found : goal.returns-clause-found
returns-clause-found c =
    let bytes = c.args.haystack.now in
    let found = c.search_any.result in
    let own = c.self.invariant in
    subst (λ (own : ListSearching). IsTrue found ↔ AnyMatches own.list bytes 0) c.self.view_is
    (any_reported c.self.inside.list.now own.0 bytes 0 found own.1
    (c.search_any.ensures.found own.0 own.2.0 own.2.1))
