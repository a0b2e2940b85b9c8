use Rattle.regex_lite.proofs.Common.{◌↔◌, IsTrue, chars, search_start, sym, subst, OfTree}
use Rattle.regex_lite.proofs.Common.{RegexSearching}
use Rattle.std.specs.Prelude.{not, ◌==◌}
use Rattle.regex_lite_engine.specs.Graph.Stored.{StoredGraph}
use Rattle.regex_lite_engine.specs.Search.AnswerAt.{HasMatchAt}
use Rattle.regex_lite_meta.specs.Searching.{SearchesGraph}
use Rattle.regex_lite.proofs.string.ReportedLemmas.{of_held}
use Rattle.regex_lite.proofs.string.searcher.Searcher.is_match_anchored.Goals as goal

pub search_any_anchored-requires-clause-searches : goal.search_any_anchored-requires-clause-searches
search_any_anchored-requires-clause-searches g c =
    subst (λ (graph : StoredGraph). SearchesGraph graph c.self.inside.inner)
    (sym c.graph-graph.ensures.same) c.self.invariant

pub returns-clause-found : goal.returns-clause-found
returns-clause-found g c =
    let bytes = c.args.haystack.now in
    let reported = c.search_any_anchored in
    let own = c.graph-graph in
    subst (λ (own : RegexSearching). OfTree own.regex (λ tree. IsTrue reported.result
    ↔ HasMatchAt (not (g.row.WHOLE == 0)) tree (chars bytes) (search_start bytes c.args.start)))
    c.self.view_is
    (of_held c.self.inside.regex own.ensures.built own.result.now own.ensures.same _
    reported.ensures.found)

pub invariant_of-self : goal.invariant_of-self
invariant_of-self g c =
    subst (λ (graph : StoredGraph). SearchesGraph graph c.search_any_anchored.new.self)
    c.graph-graph.ensures.same c.search_any_anchored.ensures.searches
