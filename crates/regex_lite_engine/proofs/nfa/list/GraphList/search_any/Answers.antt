use Rattle.regex_lite_engine.proofs.Common.{◌^◌, ◌<◌, ◌↔◌, length, is_some, IsTrue, chars, sym, ap}
use Rattle.regex_lite_engine.proofs.Common.{◌∙◌, subst, arith, rules}
use Rattle.regex_lite_engine.proofs.Common.{best_of, AnyMatchesFrom, position_at, search_start}
use Rattle.regex_lite_engine.proofs.Common.{false, option_map}
use Rattle.regex_lite_engine.proofs.search.ListOutcomeLemmas.{cost_of_list, any_reported}
use Rattle.std.proofs.lemmas.Grind.{common_steps}
use Rattle.regex_lite_engine.proofs.nfa.BoundaryLemmas.{on_boundary}
use Rattle.regex_lite_engine.proofs.nfa.list.GraphList.search_any.Goals as goal

pub run-requires : goal.run-requires
run-requires c = record {
  fresh = rw c.in_ok-patterns.ensures.list c.in_ok-patterns.ensures.fresh;
  counts =
      let haystack = c.args.haystack.now in
      let short : length haystack < 2 ^ 63 = search rules in
      rw c.in_ok-patterns.ensures.list
      (c.in_ok-patterns.ensures.counts haystack (position_at haystack c.args.start)
      c.utf8.haystack short);
  boundary = on_boundary _ _ c.requires c.if-start-haystack.false;
}

pub returns : goal.returns
returns c = record {
  found = λ trees regular is.
      let list = c.args.self.now in
      let haystack = c.args.haystack.now in
      let best = best_of c.run.new.cache.best in
      let reported = any_reported trees list is haystack c.args.start
      (omega (arith, c.if-start-haystack.false)) regular best
      (rw c.in_ok-patterns.ensures.list at c.run.ensures.found) in
      subst (λ found. IsTrue found
      ↔ AnyMatchesFrom trees (chars haystack) (search_start haystack c.args.start))
      (sym (c.is_some.ensures ∙ ap is_some c.end.ensures)) reported;
  cost = λ trees is.
      cost_of_list trees c.args.self.now is c.args.haystack.now c.args.start
      (omega (arith, c.if-start-haystack.false)) c.run.new.cache.walk.steps
      (rw c.in_ok-patterns.ensures.list at c.run.ensures.bounded);
  entered = λ reported. c.run.ensures.entry (λ none. (
      let is : IsTrue false = subst IsTrue (c.is_some.ensures ∙ ap is_some c.end.ensures
      ∙ ap (λ best. is_some (option_map (λ z. z.1) best)) none) reported in
      cc));
}

-- It has an answer because the prover would try other calls first, which takes long
pub returns-then-start-haystack-clause-found : goal.returns-then-start-haystack-clause-found
returns-then-start-haystack-clause-found c = grind (arith, common_steps)
