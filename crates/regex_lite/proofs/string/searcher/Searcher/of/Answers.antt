use Rattle.regex_lite.proofs.Common.{subst}
use Rattle.regex_lite_engine.specs.Graph.Stored.{StoredGraph}
use Rattle.regex_lite_meta.specs.Searching.{SearchesGraph}
use Rattle.regex_lite.proofs.string.searcher.Searcher.of.Goals as goal

pub invariant_of-result : goal.invariant_of-result
invariant_of-result c =
    subst (λ (graph : StoredGraph). SearchesGraph graph c.in_ok-inner.inner)
    c.graph-graph.ensures.same c.in_ok-inner.ensures.searches
