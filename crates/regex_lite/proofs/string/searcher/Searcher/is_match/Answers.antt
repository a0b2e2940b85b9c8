use Rattle.regex_lite.proofs.Common.{◌↔◌, IsTrue, inr, sym, subst, IsCharBoundary-start}
use Rattle.regex_lite.proofs.Common.{MatchesFrom, RegexSearching}
use Rattle.regex_lite_engine.specs.Graph.Stored.{StoredGraph}
use Rattle.regex_lite_meta.specs.Searching.{SearchesGraph}
use Rattle.regex_lite.proofs.OneTreeLemmas.{has_reported}
use Rattle.regex_lite.proofs.string.ReportedLemmas.{of_held}
use Rattle.regex_lite.proofs.string.searcher.Searcher.is_match.Goals as goal

pub search_any-requires-clause-searches : goal.search_any-requires-clause-searches
search_any-requires-clause-searches c =
    subst (λ (graph : StoredGraph). SearchesGraph graph c.self.inside.inner)
    (sym c.graph.ensures.same) c.self.invariant

pub search_any-requires-clause-start : goal.search_any-requires-clause-start
search_any-requires-clause-start c = inr (IsCharBoundary-start _ c.utf8.haystack)

pub returns-clause-found : goal.returns-clause-found
returns-clause-found c =
    let bytes = c.args.haystack.now in
    let reported = c.search_any in
    let held = c.self.inside.regex in
    subst (λ (own : RegexSearching). IsTrue reported.result ↔ MatchesFrom own.regex bytes 0)
    c.self.view_is
    (has_reported held.pattern bytes 0 reported.result
    (of_held held c.graph.ensures.built c.graph.result.now c.graph.ensures.same _
    reported.ensures.found))

pub invariant_of-self : goal.invariant_of-self
invariant_of-self c =
    subst (λ (graph : StoredGraph). SearchesGraph graph c.search_any.new.self) c.graph.ensures.same
    c.search_any.ensures.searches
