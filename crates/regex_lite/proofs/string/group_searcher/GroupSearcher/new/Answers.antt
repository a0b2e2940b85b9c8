use Rattle.regex_lite.proofs.Common.{subst}
use Rattle.regex_lite_engine.specs.Graph.Stored.{StoredGraph}
use Rattle.regex_lite_meta.specs.Searching.{FindsSlotsOf}
use Rattle.regex_lite.proofs.string.group_searcher.GroupSearcher.new.Goals as goal

pub invariant_of-result : goal.invariant_of-result
invariant_of-result c =
    subst (λ (graph : StoredGraph). FindsSlotsOf graph c.in_ok-inner.inner)
    c.graph.ensures.same c.in_ok-inner.ensures.finds
