use Rattle.regex_lite_meta.proofs.Common.{arith}
use Rattle.std.proofs.lemmas.Grind.{common_steps}
use Rattle.regex_lite_engine.proofs.search.OutcomeLemmas.{span_reported}
use Rattle.regex_lite_engine.proofs.nfa.BoundaryLemmas.{on_boundary}
use Rattle.regex_lite_meta.proofs.searcher.GraphSearcher.search.Goals as goal

pub find-requires-clause-boundary : goal.find-requires-clause-boundary
find-requires-clause-boundary c = on_boundary _ _ c.requires.start c.if-start-haystack.false

pub find-requires-clause-searches : goal.find-requires-clause-searches
find-requires-clause-searches c =
    rw (c.pattern-pattern.ensures.table, c.pattern-pattern.ensures.entry) c.requires.searches

pub returns : goal.returns
returns c = record {
  found = λ tree regular is.
      let own = c.pattern-pattern.ensures in
      span_reported tree regular c.args.graph.now is c.args.haystack.now c.args.start
      c.if-start-haystack.false c.find.result c.find.new.self.memory.cache.best.row
      (rw (own.table, own.entry) at c.find.ensures.found);
  searches =
      rw (← c.pattern-pattern.ensures.table, ← c.pattern-pattern.ensures.entry)
      c.find.ensures.searches;
  slots = c.find.ensures.slots;
}

-- It has an answer because the prover would try other calls first, which takes long
pub returns-then-start-haystack-clause-found : goal.returns-then-start-haystack-clause-found
returns-then-start-haystack-clause-found c = grind (arith, common_steps)
