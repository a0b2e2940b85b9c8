use Rattle.regex_lite_meta.proofs.Common.{[], chars, places_of, position_at, table_of_list, false}
use Rattle.regex_lite_engine.specs.Search.NumberedOutcomes.{IsBestOutcomeTo, numbered_at}
use Rattle.regex_lite_engine.specs.Search.NumberedOutcomes.{with_match_start_kept}
use Rattle.regex_lite_meta.specs.Memories.{row_of_several}
use Rattle.regex_lite_engine.proofs.search.ListAnchoredLemmas.{list_span_at_reported}
use Rattle.regex_lite_meta.proofs.OneLemmas.{in_list, still_one}
use Rattle.regex_lite_meta.proofs.list_searcher.GraphListSearcher.search_anchored.Goals as goal
use Rattle.regex_lite_meta.proofs.list_searcher.GraphListSearcher.search_anchored.Goals.{
  in-One,
  in-Several,
  in-Words,
}

pub returns-clause-found : goal.returns-clause-found
returns-clause-found c = λ trees regular is.
    let list = c.self.inside.graph.now in
    let of_list = rw (← c.self.view_is) at is in
    let haystack = c.args.haystack.now in
    let s = position_at haystack c.args.start in
    elim c.match-self.branch [
      | in-One w ↦
          let row = w.find_anchored.new.self.memory.cache.best.row in
          let reported = w.numbered.result in
          let one = w.pattern-pattern.result in
          let own = w.pattern-pattern.ensures in
          let alone = rw w.in-One.is at c.self.invariant in
          rw (w.result-is, w.self-inside-is)
          (list_span_at_reported false trees list of_list haystack c.args.start
          c.if-start-haystack.false
          regular reported row
          (in_list list alone.0 alone.1 (places_of one.table.now) own.table one.entry own.entry
          (λ table entries. IsBestOutcomeTo table (chars haystack) entries s s
          (with_match_start_kept (numbered_at reported row)))
          (rw (w.numbered.ensures row) at w.find_anchored.ensures.found)))
      | in-Words w ↦
          let (answers, each) = rw w.in-Words.is at c.self.invariant in
          rw (w.result-is, w.self-inside-is)
          (list_span_at_reported false trees list of_list haystack c.args.start
          c.if-start-haystack.false
          regular w.find_word_at.result []
          (w.find_word_at.ensures (table_of_list list) list.entries answers each))
      | in-Several w ↦
          rw (w.result-is, w.self-inside-is)
          (list_span_at_reported false trees list of_list haystack c.args.start
          c.if-start-haystack.false
          regular w.find_anchored-in-Several.result
          (row_of_several w.find_anchored-in-Several.new.self)
          w.find_anchored-in-Several.ensures.found)
    ]

pub invariant_of-self : goal.invariant_of-self
invariant_of-self c = elim c.match-self.branch [
  | in-One w ↦
      let alone = rw w.in-One.is at c.self.invariant in
      rw w.self-inside-is
      (still_one c.self.inside.graph.now alone.0 alone.1
      (places_of w.pattern-pattern.result.table.now) w.pattern-pattern.ensures.table
      w.pattern-pattern.result.entry w.pattern-pattern.ensures.entry w.find_anchored.new.self
      w.find_anchored.ensures.searches)
  | in-Words w ↦ rw w.self-inside-is (rw w.in-Words.is at c.self.invariant)
  | in-Several w ↦ rw w.self-inside-is w.find_anchored-in-Several.ensures.searches
]
