use Rattle.regex_lite_engine.proofs.Common.{◌^◌, ◌<◌, ◌↔◌, length, is_some, IsTrue, chars, sym, ap}
use Rattle.regex_lite_engine.proofs.Common.{◌∙◌, subst, arith, rules}
use Rattle.regex_lite_engine.proofs.Common.{best_of, position_at, search_start}
use Rattle.regex_lite_engine.proofs.Common.{false, option_map}
use Rattle.std.specs.Prelude.{not, ◌==◌}
use Rattle.regex_lite_engine.specs.Search.AnswerAt.{AnyMatchesAt}
use Rattle.regex_lite_engine.proofs.pikevm.AnchoredLemmas.{some_end}
use Rattle.regex_lite_engine.proofs.search.ListAnchoredLemmas.{list_any_at_reported}
use Rattle.regex_lite_engine.proofs.search.ListOutcomeLemmas.{cost_of_list}
use Rattle.std.proofs.lemmas.Grind.{common_steps}
use Rattle.regex_lite_engine.proofs.nfa.BoundaryLemmas.{on_boundary}
use Rattle.regex_lite_engine.proofs.nfa.list.GraphList.search_any_anchored.Goals as goal

pub run_anchored-requires : goal.run_anchored-requires
run_anchored-requires g c = record {
  fresh = rw c.in_ok-patterns.ensures.list c.in_ok-patterns.ensures.fresh;
  counts =
      let haystack = c.args.haystack.now in
      let short : length haystack < 2 ^ 63 = search rules in
      rw c.in_ok-patterns.ensures.list
      (c.in_ok-patterns.ensures.counts haystack (position_at haystack c.args.start)
      c.utf8.haystack short);
  boundary = on_boundary _ _ c.requires c.if-start-haystack.false;
}

pub returns : goal.returns
returns g c = record {
  found = λ trees regular is.
      let list = c.args.self.now in
      let haystack = c.args.haystack.now in
      let best = best_of c.run_anchored.new.cache.best in
      let reported = list_any_at_reported (not (g.row.WHOLE == 0)) trees list is haystack
      c.args.start (omega (arith, c.if-start-haystack.false)) regular best
      (rw c.in_ok-patterns.ensures.list at c.run_anchored.ensures.found) in
      subst (λ found. IsTrue found
      ↔ AnyMatchesAt (not (g.row.WHOLE == 0)) trees (chars haystack)
      (search_start haystack c.args.start))
      (sym (c.is_some.ensures ∙ ap is_some c.end.ensures ∙ some_end best)) reported;
  cost = λ trees is.
      cost_of_list trees c.args.self.now is c.args.haystack.now c.args.start
      (omega (arith, c.if-start-haystack.false)) c.run_anchored.new.cache.walk.steps
      (rw c.in_ok-patterns.ensures.list at c.run_anchored.ensures.bounded);
  entered = λ reported. c.run_anchored.ensures.entry (λ none. (
      let is : IsTrue false = subst IsTrue (c.is_some.ensures ∙ ap is_some c.end.ensures
      ∙ ap (λ best. is_some (option_map (λ z. z.1) best)) none) reported in
      cc));
}

-- It has an answer because the prover would try other calls first, which takes long
pub returns-then-start-haystack-clause-found : goal.returns-then-start-haystack-clause-found
returns-then-start-haystack-clause-found g c = grind (arith, common_steps)
