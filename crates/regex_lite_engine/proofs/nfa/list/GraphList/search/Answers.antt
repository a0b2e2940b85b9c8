use Rattle.regex_lite_engine.proofs.Common.{◌^◌, ◌<◌, length, arith, rules}
use Rattle.regex_lite_engine.proofs.Common.{position_at}
use Rattle.regex_lite_engine.proofs.search.ListOutcomeLemmas.{cost_of_list, outcome_reported}
use Rattle.std.proofs.lemmas.Grind.{common_steps}
use Rattle.regex_lite_engine.proofs.nfa.BoundaryLemmas.{on_boundary}
use Rattle.regex_lite_engine.proofs.nfa.list.GraphList.search.Goals as goal

pub run-requires : goal.run-requires
run-requires c = record {
  fresh = rw c.in_ok-patterns.ensures.list c.in_ok-patterns.ensures.fresh;
  counts =
      let haystack = c.args.haystack.now in
      let short : length haystack < 2 ^ 63 = search rules in
      rw c.in_ok-patterns.ensures.list
      (c.in_ok-patterns.ensures.counts haystack (position_at haystack c.args.start)
      c.utf8.haystack short);
  boundary = on_boundary _ _ c.requires c.if-start-haystack.false;
}

pub returns-clause-found : goal.returns-clause-found
returns-clause-found c = λ trees regular is.
    outcome_reported trees c.args.self.now is c.args.haystack.now c.args.start
    (omega (arith, c.if-start-haystack.false)) regular c.into_numbered.result
    (rw (c.in_ok-patterns.ensures.list, c.into_numbered.ensures.reported) at c.run.ensures.found)

pub returns-clause-cost : goal.returns-clause-cost
returns-clause-cost c = λ trees is.
    cost_of_list trees c.args.self.now is c.args.haystack.now c.args.start
    (omega (arith, c.if-start-haystack.false)) c.run.new.cache.walk.steps
    (rw c.in_ok-patterns.ensures.list at c.run.ensures.bounded)

-- It has an answer because the prover would try other calls first, which takes long
pub returns-then-start-haystack-clause-found : goal.returns-then-start-haystack-clause-found
returns-then-start-haystack-clause-found c = grind (arith, common_steps)
