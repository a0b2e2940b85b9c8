use Rattle.std.specs.Prelude.{◌↔◌, IsTrue}
use Rattle.regex_lite_meta.proofs.Common.{[], chars, places_of, position_at, sym, ◌∙◌, subst}
use Rattle.regex_lite_meta.proofs.Common.{best_reported, table_of_list}
use Rattle.regex_lite_engine.specs.Search.AnswerOfList.{AnyMatchesFrom}
use Rattle.regex_lite_engine.specs.Search.NumberedWords.{AreAnsweredBy}
use Rattle.regex_lite_syntax.specs.Prefilter.NumberedWords.{IsNextOfPatterns}
use Rattle.regex_lite_engine.specs.Search.Offsets.{search_start}
use Rattle.regex_lite_engine.proofs.search.ListOutcomeLemmas.{any_of_span, any_reported}
use Rattle.regex_lite_engine.proofs.search.ListOutcomeLemmas.{list_span_reported}
use Rattle.regex_lite_engine.proofs.nfa.BoundaryLemmas.{on_boundary}
use Rattle.regex_lite_meta.specs.AnyOfOne.{HasMatchOfAny}
use Rattle.regex_lite_meta.proofs.AnyLemmas.{any_of_trees}
use Rattle.regex_lite_meta.proofs.OneLemmas.{in_list, still_one}
use Rattle.regex_lite_meta.proofs.lazy_dfa.ScanLemmas.{some_kept}
use Rattle.regex_lite_meta.proofs.list_searcher.GraphListSearcher.search_any.Goals as goal
use Rattle.regex_lite_meta.proofs.list_searcher.GraphListSearcher.search_any.Goals.{in-One}
use Rattle.regex_lite_meta.proofs.list_searcher.GraphListSearcher.search_any.Goals.{in-Several}
use Rattle.regex_lite_meta.proofs.list_searcher.GraphListSearcher.search_any.Goals.{in-Words}

pub returns-clause-found : goal.returns-clause-found
returns-clause-found c = λ trees regular is.
    let list = c.self.inside.graph.now in
    let of_list = rw (← c.self.view_is) at is in
    let haystack = c.args.haystack.now in
    let s = position_at haystack c.args.start in
    let inside = c.if-start-haystack.false in
    elim c.match-self.branch [
      | in-One w ↦
          let one = w.pattern-pattern.result in
          let own = w.pattern-pattern.ensures in
          let alone = rw w.in-One.is at c.self.invariant in
          subst (λ some. IsTrue some
          ↔ AnyMatchesFrom trees (chars haystack) (search_start haystack c.args.start))
          (sym w.result-is)
          (any_of_trees trees list of_list haystack c.args.start inside regular w.find_any.result
          (in_list list alone.0 alone.1 (places_of one.table.now) own.table one.entry own.entry
          (λ table entries. IsTrue w.find_any.result
          ↔ HasMatchOfAny table (chars haystack) entries s)
          w.find_any.ensures.found))
      | in-Words w ↦
          let words = w.in-Words.words.now in
          let span = w.find_span.result in
          let answers : AreAnsweredBy (table_of_list list) list.entries words =
          (rw w.in-Words.is at c.self.invariant).0 in
          let next : IsNextOfPatterns words haystack c.args.start span =
          subst (λ bytes. IsNextOfPatterns words bytes c.args.start span)
          w.as_bytes.ensures.value w.find_span.ensures in
          let outcome = list_span_reported trees list of_list haystack c.args.start inside regular
          span []
          (answers haystack c.args.start span c.utf8.haystack
          (on_boundary _ _ c.requires inside) next) in
          subst (λ some. IsTrue some
          ↔ AnyMatchesFrom trees (chars haystack) (search_start haystack c.args.start))
          (sym (w.result-is ∙ w.is_some.ensures))
          (any_of_span trees regular haystack c.args.start [] span outcome)
      | in-Several w ↦
          let found = w.find_end.result in
          let reported = any_reported trees list of_list haystack c.args.start inside regular
          (best_reported found) w.find_end.ensures.found in
          subst (λ some. IsTrue some
          ↔ AnyMatchesFrom trees (chars haystack) (search_start haystack c.args.start))
          (sym (w.result-is ∙ w.is_some-in-Several.ensures ∙ some_kept found [])) reported
    ]

pub invariant_of-self : goal.invariant_of-self
invariant_of-self c = elim c.match-self.branch [
  | in-One w ↦
      let alone = rw w.in-One.is at c.self.invariant in
      rw w.self-inside-is
      (still_one c.self.inside.graph.now alone.0 alone.1
      (places_of w.pattern-pattern.result.table.now) w.pattern-pattern.ensures.table
      w.pattern-pattern.result.entry w.pattern-pattern.ensures.entry w.find_any.new.self
      w.find_any.ensures.searches)
  | in-Words w ↦ rw w.self-inside-is (rw w.in-Words.is at c.self.invariant)
  | in-Several w ↦ rw w.self-inside-is w.find_end.ensures.searches
]
