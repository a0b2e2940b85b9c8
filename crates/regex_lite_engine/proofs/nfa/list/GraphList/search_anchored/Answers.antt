use Rattle.regex_lite_engine.proofs.Common.{◌^◌, ◌<◌, length, arith, rules}
use Rattle.regex_lite_engine.proofs.Common.{position_at}
use Rattle.std.specs.Prelude.{not, ◌==◌}
use Rattle.regex_lite_engine.proofs.search.ListAnchoredLemmas.{list_outcome_at_reported}
use Rattle.regex_lite_engine.proofs.search.ListOutcomeLemmas.{cost_of_list}
use Rattle.std.proofs.lemmas.Grind.{common_steps}
use Rattle.regex_lite_engine.proofs.nfa.BoundaryLemmas.{on_boundary}
use Rattle.regex_lite_engine.proofs.nfa.list.GraphList.search_anchored.Goals as goal

pub run_anchored-requires : goal.run_anchored-requires
run_anchored-requires g c = record {
  fresh = rw c.in_ok-patterns.ensures.list c.in_ok-patterns.ensures.fresh;
  counts =
      let haystack = c.args.haystack.now in
      let short : length haystack < 2 ^ 63 = search rules in
      rw c.in_ok-patterns.ensures.list
      (c.in_ok-patterns.ensures.counts haystack (position_at haystack c.args.start)
      c.utf8.haystack short);
  boundary = on_boundary _ _ c.requires c.if-start-haystack.false;
}

pub returns-clause-found : goal.returns-clause-found
returns-clause-found g c = λ trees regular is.
    list_outcome_at_reported (not (g.row.WHOLE == 0)) trees c.args.self.now is c.args.haystack.now
    c.args.start
    (omega (arith, c.if-start-haystack.false)) regular c.into_numbered.result
    (rw (c.in_ok-patterns.ensures.list, c.into_numbered.ensures.reported) at
    c.run_anchored.ensures.found)

pub returns-clause-cost : goal.returns-clause-cost
returns-clause-cost g c = λ trees is.
    cost_of_list trees c.args.self.now is c.args.haystack.now c.args.start
    (omega (arith, c.if-start-haystack.false)) c.run_anchored.new.cache.walk.steps
    (rw c.in_ok-patterns.ensures.list at c.run_anchored.ensures.bounded)

-- It has an answer because the prover would try other calls first, which takes long
pub returns-then-start-haystack-clause-found : goal.returns-then-start-haystack-clause-found
returns-then-start-haystack-clause-found g c = grind (arith, common_steps)
