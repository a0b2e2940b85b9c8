use Rattle.regex_lite_meta.proofs.Common.{arith, chars, span_of}
use Rattle.regex_lite_meta.proofs.Common.{places_of, position_at, [], ◌∷◌}
use Rattle.std.specs.Prelude.{not, ◌==◌}
use Rattle.std.proofs.lemmas.Grind.{common_steps}
use Rattle.regex_lite_engine.proofs.search.AnchoredOutcomeLemmas.{span_at_reported}
use Rattle.regex_lite_meta.proofs.AnchoredSpanLemmas.{spanned_to}
use Rattle.regex_lite_engine.proofs.nfa.BoundaryLemmas.{on_boundary}
use Rattle.regex_lite_meta.proofs.searcher.GraphSearcher.search_anchored.Goals as goal

pub find_anchored-requires-clause-boundary : goal.find_anchored-requires-clause-boundary
find_anchored-requires-clause-boundary g c =
    on_boundary _ _ c.requires.start c.if-start-haystack.false

pub find_anchored-requires-clause-searches : goal.find_anchored-requires-clause-searches
find_anchored-requires-clause-searches g c =
    rw (c.pattern-pattern.ensures.table, c.pattern-pattern.ensures.entry) c.requires.searches

pub returns : goal.returns
returns g c = record {
  found = λ tree regular is.
      let own = c.pattern-pattern.ensures in
      let haystack = c.args.haystack.now in
      let s = position_at haystack c.args.start in
      let row = c.find_anchored.new.self.memory.cache.best.row in
      let one = c.pattern-pattern.result in
      rw c.span_of.ensures
      (span_at_reported (not (g.row.WHOLE == 0)) tree regular c.args.graph.now is haystack
      c.args.start
      c.if-start-haystack.false (span_of c.find_anchored.result) row
      (rw (own.table, own.entry) at
      (spanned_to (places_of one.table.now) (chars haystack) (one.entry ∷ [])
      (not (g.row.WHOLE == 0)) s s
      c.find_anchored.result row c.find_anchored.ensures.found)));
  searches =
      rw (← c.pattern-pattern.ensures.table, ← c.pattern-pattern.ensures.entry)
      c.find_anchored.ensures.searches;
  slots = c.find_anchored.ensures.slots;
}

-- It has an answer because the prover would try other calls first, which takes long
pub returns-then-start-haystack-clause-found : goal.returns-then-start-haystack-clause-found
returns-then-start-haystack-clause-found g c = grind (arith, common_steps)
