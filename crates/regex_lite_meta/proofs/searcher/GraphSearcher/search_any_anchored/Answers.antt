use Rattle.std.specs.Prelude.{◌↔◌, IsTrue}
use Rattle.regex_lite_meta.proofs.Common.{sym, subst, ◌∙◌, chars, best_kept}
use Rattle.std.specs.Prelude.{not, ◌==◌}
use Rattle.regex_lite_engine.proofs.nfa.BoundaryLemmas.{on_boundary}
use Rattle.regex_lite_engine.specs.Search.AnswerAt.{HasMatchAt}
use Rattle.regex_lite_engine.specs.Search.Offsets.{search_start}
use Rattle.regex_lite_engine.proofs.search.AnchoredOutcomeLemmas.{any_at_reported}
use Rattle.regex_lite_meta.proofs.AnchoredSpanLemmas.{some_kept}
use Rattle.regex_lite_meta.proofs.searcher.GraphSearcher.search_any_anchored.Goals as goal

pub find_anchored-requires-clause-boundary : goal.find_anchored-requires-clause-boundary
find_anchored-requires-clause-boundary g c =
    on_boundary _ _ c.requires.start c.if-start-haystack.false

pub find_anchored-requires-clause-searches : goal.find_anchored-requires-clause-searches
find_anchored-requires-clause-searches g c =
    rw (c.pattern-pattern.ensures.table, c.pattern-pattern.ensures.entry) c.requires.searches

pub returns : goal.returns
returns g c = record {
  found = λ tree regular is.
      let own = c.pattern-pattern.ensures in
      let haystack = c.args.haystack.now in
      let found = c.find_anchored.result in
      let row = c.find_anchored.new.self.memory.cache.best.row in
      subst (λ some. IsTrue some
      ↔ HasMatchAt (not (g.row.WHOLE == 0)) tree (chars haystack)
      (search_start haystack c.args.start))
      (sym (c.is_some.ensures ∙ some_kept found row))
      (any_at_reported (not (g.row.WHOLE == 0)) tree regular c.args.graph.now is haystack
      c.args.start
      c.if-start-haystack.false (best_kept found row)
      (rw (own.table, own.entry) at c.find_anchored.ensures.found));
  searches =
      rw (← c.pattern-pattern.ensures.table, ← c.pattern-pattern.ensures.entry)
      c.find_anchored.ensures.searches;
  slots = c.find_anchored.ensures.slots;
}
