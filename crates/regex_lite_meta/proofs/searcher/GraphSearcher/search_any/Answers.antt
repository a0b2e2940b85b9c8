use Rattle.regex_lite_engine.proofs.nfa.BoundaryLemmas.{on_boundary}
use Rattle.regex_lite_meta.proofs.AnyLemmas.{any_of_tree}
use Rattle.regex_lite_meta.proofs.searcher.GraphSearcher.search_any.Goals as goal

pub find_any-requires-clause-boundary : goal.find_any-requires-clause-boundary
find_any-requires-clause-boundary c = on_boundary _ _ c.requires.start c.if-start-haystack.false

pub find_any-requires-clause-searches : goal.find_any-requires-clause-searches
find_any-requires-clause-searches c =
    rw (c.pattern-pattern.ensures.table, c.pattern-pattern.ensures.entry) c.requires.searches

pub returns : goal.returns
returns c = record {
  found = λ tree regular is.
      let own = c.pattern-pattern.ensures in
      any_of_tree tree regular c.args.graph.now is c.args.haystack.now c.args.start
      c.if-start-haystack.false c.find_any.result
      (rw (own.table, own.entry) at c.find_any.ensures.found);
  searches =
      rw (← c.pattern-pattern.ensures.table, ← c.pattern-pattern.ensures.entry)
      c.find_any.ensures.searches;
  slots = c.find_any.ensures.slots;
}
