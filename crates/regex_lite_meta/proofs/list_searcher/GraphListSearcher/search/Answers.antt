use Rattle.regex_lite_meta.proofs.Common.{[], None, Some, chars, places_of, position_at}
use Rattle.regex_lite_meta.proofs.Common.{IsBestOutcomeOf, option_map, subst, table_of_list}
use Rattle.regex_lite_engine.specs.Search.NumberedOutcomes.{numbered_at, with_match_start_kept}
use Rattle.regex_lite_engine.specs.Search.NumberedWords.{AreAnsweredBy}
use Rattle.regex_lite_syntax.specs.Prefilter.NumberedWords.{IsNextOfPatterns}
use Rattle.regex_lite_meta.specs.Memories.{row_of_several}
use Rattle.regex_lite_engine.proofs.nfa.BoundaryLemmas.{on_boundary}
use Rattle.regex_lite_engine.proofs.search.ListOutcomeLemmas.{list_span_reported}
use Rattle.regex_lite_meta.proofs.OneLemmas.{in_list, span_of_one, still_one}
use Rattle.regex_lite_meta.proofs.list_searcher.GraphListSearcher.search.Goals as goal
use Rattle.regex_lite_meta.proofs.list_searcher.GraphListSearcher.search.Goals.{
  in-One+in_ok-span-in-One,
}
use Rattle.regex_lite_meta.proofs.list_searcher.GraphListSearcher.search.Goals.{in-Several}
use Rattle.regex_lite_meta.proofs.list_searcher.GraphListSearcher.search.Goals.{in-Words}

pub returns-in_err-span-in-One-clause-found : goal.returns-in_err-span-in-One-clause-found
returns-in_err-span-in-One-clause-found c = λ trees regular is.
    let list = c.self.inside.graph.now in
    let of_list = rw (← c.self.view_is) at is in
    let haystack = c.args.haystack.now in
    let s = position_at haystack c.args.start in
    let row = c.find.new.self.memory.cache.best.row in
    let one = c.pattern-pattern.result in
    let own = c.pattern-pattern.ensures in
    let alone = rw c.in-One.is at c.self.invariant in
    rw c.from_residual.ensures
    (list_span_reported trees list of_list haystack c.args.start c.if-start-haystack.false regular
    None row
    (in_list list alone.0 alone.1 (places_of one.table.now) own.table one.entry own.entry
    (λ table entries. IsBestOutcomeOf table (chars haystack) entries s
    (with_match_start_kept (numbered_at None row)))
    (span_of_one (places_of one.table.now) (chars haystack) one.entry s None row
    c.in_err-span-in-One.ensures.found)))

pub returns-clause-found : goal.returns-clause-found
returns-clause-found c = λ trees regular is.
    let list = c.self.inside.graph.now in
    let of_list = rw (← c.self.view_is) at is in
    let haystack = c.args.haystack.now in
    let s = position_at haystack c.args.start in
    elim c.match-self.branch [
      | in-One+in_ok-span-in-One w ↦
          let row = w.find.new.self.memory.cache.best.row in
          let one = w.pattern-pattern.result in
          let own = w.pattern-pattern.ensures in
          let alone = rw w.in-One.is at c.self.invariant in
          let span = Some w.in_ok-span-in-One.span in
          rw (w.result-is, w.self-inside-is)
          (list_span_reported trees list of_list haystack c.args.start c.if-start-haystack.false
          regular (option_map (λ span. (0, span)) span) row
          (in_list list alone.0 alone.1 (places_of one.table.now) own.table one.entry own.entry
          (λ table entries. IsBestOutcomeOf table (chars haystack) entries s
          (with_match_start_kept (numbered_at (option_map (λ span. (0, span)) span) row)))
          (span_of_one (places_of one.table.now) (chars haystack) one.entry s span row
          w.in_ok-span-in-One.ensures.found)))
      | in-Words w ↦
          let words = w.in-Words.words.now in
          let answers : AreAnsweredBy (table_of_list list) list.entries words =
          (rw w.in-Words.is at c.self.invariant).0 in
          let next : IsNextOfPatterns words haystack c.args.start w.find_span.result =
          subst (λ bytes. IsNextOfPatterns words bytes c.args.start w.find_span.result)
          w.as_bytes.ensures.value w.find_span.ensures in
          rw (w.result-is, w.self-inside-is)
          (list_span_reported trees list of_list haystack c.args.start c.if-start-haystack.false
          regular w.find_span.result []
          (answers haystack c.args.start w.find_span.result c.utf8.haystack
          (on_boundary _ _ c.requires c.if-start-haystack.false) next))
      | in-Several w ↦
          rw (w.result-is, w.self-inside-is)
          (list_span_reported trees list of_list haystack c.args.start c.if-start-haystack.false
          regular w.find-in-Several.result (row_of_several w.find-in-Several.new.self)
          w.find-in-Several.ensures.found)
    ]

pub invariant_of-self-2 : goal.invariant_of-self-2
invariant_of-self-2 c = elim c.match-self.branch [
  | in-One+in_ok-span-in-One w ↦
      let alone = rw w.in-One.is at c.self.invariant in
      rw w.self-inside-is
      (still_one c.self.inside.graph.now alone.0 alone.1
      (places_of w.pattern-pattern.result.table.now) w.pattern-pattern.ensures.table
      w.pattern-pattern.result.entry w.pattern-pattern.ensures.entry w.find.new.self
      w.find.ensures.searches)
  | in-Words w ↦ rw w.self-inside-is (rw w.in-Words.is at c.self.invariant)
  | in-Several w ↦ rw w.self-inside-is w.find-in-Several.ensures.searches
]
