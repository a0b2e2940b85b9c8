use Rattle.regex_lite.proofs.Common.{◌↔◌, IsTrue, subst}
use Rattle.regex_lite.specs.MatchOffsets.{SomeMatchesAt}
use Rattle.regex_lite.specs.Scanning.{ListSearching}
use Rattle.regex_lite.proofs.string.ListAnchoredLemmas.{any_reported_there}
use Rattle.regex_lite.proofs.string.list.searcher.ListSearcher.is_match_anchored_at.Goals as goal

pub returns-clause-found : goal.returns-clause-found
returns-clause-found c =
    let bytes = c.args.haystack.now in
    let reported = c.search_any_anchored in
    let own = c.self.invariant in
    subst (λ (own : ListSearching). IsTrue reported.result ↔ SomeMatchesAt own.list bytes
    c.args.start) c.self.view_is
    (any_reported_there bytes c.utf8.haystack c.args.start c.requires c.self.inside.list.now
    reported.result (own.0, own.1, reported.ensures.found own.0 own.2.0 own.2.1))
