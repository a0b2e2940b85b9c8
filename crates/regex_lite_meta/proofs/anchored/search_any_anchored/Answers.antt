use Rattle.std.proofs.lemmas.Result.{IfOk-weaker}
use Rattle.regex_lite_engine.proofs.nfa.BoundaryLemmas.{on_boundary}
use Rattle.regex_lite_engine.proofs.search.OutcomeLemmas.{cost_reported}
use Rattle.std.specs.Prelude.{◌↔◌, IsTrue}
use Rattle.regex_lite_meta.proofs.Common.{chars, subst, sym}
use Rattle.std.specs.Prelude.{not, ◌==◌}
use Rattle.regex_lite_engine.specs.Search.AnswerAt.{HasMatchAt}
use Rattle.regex_lite_engine.specs.Search.Offsets.{search_start}
use Rattle.regex_lite_engine.proofs.search.AnchoredOutcomeLemmas.{any_at_reported}
use Rattle.regex_lite_meta.proofs.anchored.search_any_anchored.Goals as goal

pub search_any_anchored-requires : goal.search_any_anchored-requires
search_any_anchored-requires g c = on_boundary _ _ c.requires c.if-start-haystack.false

pub returns : goal.returns
returns g c =
    let graph = c.args.graph.now in
    let haystack = c.args.haystack.now in
    let start = c.args.start in
    let inside = c.if-start-haystack.false in
    let reported = rw (c.pattern-pattern.ensures.table, c.pattern-pattern.ensures.entry) at
    c.search_any_anchored.ensures in record {
      found = IfOk-weaker c.search_any_anchored.result _ _
          (λ reported is tree regular of_tree.
          subst (λ found. IsTrue found
          ↔ HasMatchAt (not (g.row.WHOLE == 0)) tree (chars haystack) (search_start haystack start))
          (sym is.is_some)
          (any_at_reported (not (g.row.WHOLE == 0)) tree regular graph of_tree haystack start inside
          is.best is.found)) reported;
      cost = IfOk-weaker c.search_any_anchored.result _ _
          (λ reported is tree of_tree. cost_reported tree graph of_tree haystack start inside
          reported.1.tried reported.1.entered reported.1.looked is.cost) reported;
      entered = IfOk-weaker c.search_any_anchored.result _ _ (λ reported is. is.entered) reported;
    }
