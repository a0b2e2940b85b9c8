use Rattle.regex_lite_meta.proofs.Common.{arith}
use Rattle.std.proofs.lemmas.Grind.{common_steps}
use Rattle.std.proofs.lemmas.Result.{IfOk-weaker}
use Rattle.regex_lite_engine.proofs.nfa.BoundaryLemmas.{on_boundary}
use Rattle.regex_lite_engine.proofs.search.OutcomeLemmas.{cost_reported}
use Rattle.regex_lite_meta.proofs.OneLemmas.{end_of_tree}
use Rattle.regex_lite_meta.proofs.once.search_shortest.Goals as goal

-- It has an answer because the prover would try other calls first, which takes long
pub returns-then-start-haystack-clause-found : goal.returns-then-start-haystack-clause-found
returns-then-start-haystack-clause-found c = grind (arith, common_steps)

pub search_shortest_one-requires-clause-boundary : goal.search_shortest_one-requires-clause-boundary
search_shortest_one-requires-clause-boundary c =
    on_boundary _ _ c.requires c.if-start-haystack.false

pub returns : goal.returns
returns c =
    let graph = c.args.graph.now in
    let haystack = c.args.haystack.now in
    let start = c.args.start in
    let inside = c.if-start-haystack.false in
    let reported = rw (c.pattern-pattern.ensures.table, c.pattern-pattern.ensures.entry) at
    c.search_shortest_one.ensures in record {
      found = IfOk-weaker c.search_shortest_one.result _ _
          (λ reported is tree regular of_tree.
          end_of_tree tree regular graph of_tree haystack start inside reported.0 is.found)
          reported;
      cost = IfOk-weaker c.search_shortest_one.result _ _
          (λ reported is tree of_tree. cost_reported tree graph of_tree haystack start inside
          reported.1.tried reported.1.entered reported.1.looked is.cost) reported;
      entered = IfOk-weaker c.search_shortest_one.result _ _ (λ reported is. is.entered) reported;
    }
