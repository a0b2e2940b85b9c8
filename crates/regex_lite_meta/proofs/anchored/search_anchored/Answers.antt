use Rattle.std.specs.Prelude.{not, ◌==◌}
use Rattle.regex_lite_meta.proofs.Common.{arith}
use Rattle.std.proofs.lemmas.Grind.{common_steps}
use Rattle.std.proofs.lemmas.Result.{IfOk-weaker}
use Rattle.regex_lite_engine.proofs.nfa.BoundaryLemmas.{on_boundary}
use Rattle.regex_lite_engine.proofs.search.AnchoredOutcomeLemmas.{outcome_at_reported}
use Rattle.regex_lite_engine.proofs.search.OutcomeLemmas.{cost_reported}
use Rattle.regex_lite_meta.proofs.anchored.search_anchored.Goals as goal

-- It has an answer because the prover would try other calls first, which takes long
pub returns-then-start-haystack-clause-found : goal.returns-then-start-haystack-clause-found
returns-then-start-haystack-clause-found g c = grind (arith, common_steps)

pub search_anchored-requires : goal.search_anchored-requires
search_anchored-requires g c = on_boundary _ _ c.requires c.if-start-haystack.false

pub returns : goal.returns
returns g c =
    let graph = c.args.graph.now in
    let haystack = c.args.haystack.now in
    let start = c.args.start in
    let inside = c.if-start-haystack.false in
    let reported = rw (c.pattern-pattern.ensures.table, c.pattern-pattern.ensures.entry) at
    c.search_anchored.ensures in record {
      found = IfOk-weaker c.search_anchored.result _ _
          (λ reported is tree regular of_tree.
          outcome_at_reported (not (g.row.WHOLE == 0)) tree regular graph of_tree haystack start
          inside reported.0 is.found) reported;
      slots = IfOk-weaker c.search_anchored.result _ _ (λ reported is. is.slots) reported;
      cost = IfOk-weaker c.search_anchored.result _ _
          (λ reported is tree of_tree. cost_reported tree graph of_tree haystack start inside
          reported.1.tried reported.1.entered reported.1.looked is.cost) reported;
      entered = IfOk-weaker c.search_anchored.result _ _ (λ reported is. is.entered) reported;
    }
