use Rattle.regex_lite.proofs.Common.{Some, sym, subst, OfTree, RegexSearching, IsMatchOf}
use Rattle.std.specs.Prelude.{not, ◌==◌}
use Rattle.regex_lite_engine.specs.Search.Outcomes.{IsSpanOutcomeAt}
use Rattle.regex_lite_engine.specs.Graph.Stored.{StoredGraph}
use Rattle.regex_lite_meta.specs.Searching.{SearchesGraph, row_of_graph}
use Rattle.regex_lite.specs.Anchored.{TellsAnswerAt}
use Rattle.regex_lite.proofs.string.ReportedLemmas.{of_held}
use Rattle.regex_lite.proofs.string.WayLemmas.{match_at_reported, span_at_lies}
use Rattle.regex_lite.proofs.string.searcher.Searcher.find_anchored.Given as given
use Rattle.regex_lite.proofs.string.searcher.Searcher.find_anchored.Goals as goal
use Rattle.regex_lite.proofs.string.searcher.Searcher.find_anchored.Goals.{In_ok-from}

-- what the search reported
reported : (g : given.Over) (c : In_ok-from g) → OfTree c.self.inside.regex.pattern
    (λ tree. IsSpanOutcomeAt (not (g.row.WHOLE == 0)) tree c.args.haystack.now c.args.start
    (row_of_graph c.search_anchored.new.self) (Some (c.in_ok-from.from, c.in_ok-from.to)))
reported g c =
    let own = c.graph-graph in
    of_held c.self.inside.regex own.ensures.built own.result.now own.ensures.same _
    c.in_ok-from.ensures.found

pub search_anchored-requires-clause-searches : goal.search_anchored-requires-clause-searches
search_anchored-requires-clause-searches g c =
    subst (λ (graph : StoredGraph). SearchesGraph graph c.self.inside.inner)
    (sym c.graph-graph.ensures.same) c.self.invariant

pub new-requires : goal.new-requires
new-requires g c =
    span_at_lies (not (g.row.WHOLE == 0)) c.args.haystack.now c.utf8.haystack c.args.start
    c.self.inside.regex.pattern _ _ (reported g (goal.at.new-requires g c).In_ok-from)

pub returns-clause-found : goal.returns-clause-found
returns-clause-found g c =
    let re = c.self.inside.regex.pattern in
    subst (λ (own : RegexSearching). TellsAnswerAt (not (g.row.WHOLE == 0))
    (λ tree. IsMatchOf c.args.haystack.now) own.regex c.args.haystack.now c.args.start
    (Some c.new.result)) c.self.view_is
    (match_at_reported (not (g.row.WHOLE == 0)) c.args.haystack.now c.utf8.haystack c.args.start re
    _ _ (reported g (goal.at.returns-clause-found g c).In_ok-from) c.new.result
    c.new.ensures.haystack c.new.ensures.span)

pub invariant_of-self : goal.invariant_of-self
invariant_of-self g c =
    subst (λ (graph : StoredGraph). SearchesGraph graph c.search_anchored.new.self)
    c.graph-graph.ensures.same c.search_anchored.ensures.searches
