use Rattle.regex_lite_engine.proofs.Common.{◌≡◌, false, ◌++◌, length, take, drop, IsTrue}
use Rattle.regex_lite_engine.proofs.Common.{slice_index_or, chars, sym, ap, ◌∙◌, subst, arith}
use Rattle.regex_lite_engine.proofs.Common.{take-append_seam, places_of_all, tries_of_all}
use Rattle.regex_lite_engine.proofs.Common.{IsBoundedBy, search_start}
use Rattle.regex_lite_engine.specs.Search.AnswerOfList.{TellsWhich}
use Rattle.regex_lite_engine.proofs.search.ListOutcomeLemmas.{at_position}
use Rattle.std.proofs.lemmas.Grind.{common_steps}
use Rattle.regex_lite_engine.proofs.nfa.BoundaryLemmas.{on_boundary}
use Rattle.regex_lite_meta.proofs.list_matches.search_each.Goals as goal

pub returns : goal.returns
returns c = record {
  found = λ trees regular is.
      let haystack = c.args.haystack.now in
      let found = c.in_ok-steps.ensures.found trees regular is in
      let reported = c.search_all.new.matched in
      let all = found.all in
      let each = is.each_entry in
      let len : c.in_ok-matched.matched.len ≡ length reported
      =
      omega (
        arith,
        all,
        each,
        c.in_ok-matched.ensures.len,
        c.len.ensures.same,
        c.in_ok-matched.matched.ok,
      ) in
      let same = ap (λ n. take n (reported ++ drop (length reported) c.in_ok-matched.matched.items))
      len ∙ take-append_seam reported (drop (length reported) c.in_ok-matched.matched.items) in
      subst (λ list. TellsWhich trees (chars haystack) (search_start haystack c.args.start) list)
      (sym same)
      (at_position trees c.args.list.now is haystack c.args.start
      (omega (arith, c.if-start-haystack.false))
      (λ s. TellsWhich trees (chars haystack) s reported) found);
  entered = λ k reported.
      let new = c.search_all.new.matched in
      let len : c.in_ok-matched.matched.len ≡ length new
      = omega (arith, c.search_all.ensures.length, c.in_ok-matched.matched.ok) in
      let same = ap (λ n. take n (new ++ drop (length new) c.in_ok-matched.matched.items)) len
      ∙ take-append_seam new (drop (length new) c.in_ok-matched.matched.items) in
      c.in_ok-steps.ensures.entered k
      (subst (λ list. IsTrue (slice_index_or list k false)) same reported);
  cost = λ trees is.
      let haystack = c.args.haystack.now in
      let steps = c.in_ok-steps.steps in
      at_position trees c.args.list.now is haystack c.args.start
      (omega (arith, c.if-start-haystack.false))
      (λ s. IsBoundedBy (places_of_all trees) (tries_of_all trees) (chars haystack) s
      steps.tried steps.entered steps.looked)
      (c.in_ok-steps.ensures.cost trees is);
}

-- The goals from here on need no lemma of their own. They have answers because the prover would
-- try other calls first, which takes long
pub returns-then-start-haystack-clause-found : goal.returns-then-start-haystack-clause-found
returns-then-start-haystack-clause-found c = grind (arith, common_steps)

pub returns-then-start-haystack-clause-entered : goal.returns-then-start-haystack-clause-entered
returns-then-start-haystack-clause-entered c = grind (arith, common_steps)

pub search_all-requires-clause-boundary : goal.search_all-requires-clause-boundary
search_all-requires-clause-boundary c = on_boundary _ _ c.requires c.if-start-haystack.false
