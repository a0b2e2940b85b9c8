use Rattle.std.specs.Prelude.{◌↔◌, IsTrue}
use Rattle.regex_lite_meta.proofs.Common.{[], chars, places_of, position_at, sym, ◌∙◌, subst}
use Rattle.regex_lite_meta.proofs.Common.{best_kept, table_of_list, false}
use Rattle.regex_lite_engine.specs.Search.AnswerAt.{AnyMatchesAt}
use Rattle.regex_lite_engine.specs.Search.NumberedOutcomes.{IsAnyTo}
use Rattle.regex_lite_engine.specs.Search.Offsets.{search_start}
use Rattle.regex_lite_engine.proofs.search.ListAnchoredLemmas.{list_any_at_reported}
use Rattle.regex_lite_meta.proofs.AnchoredSpanLemmas.{some_kept, any_of_word}
use Rattle.regex_lite_meta.proofs.OneLemmas.{in_list, still_one}
use Rattle.regex_lite_meta.proofs.list_searcher.GraphListSearcher.search_any_anchored.Goals as goal
use Rattle.regex_lite_meta.proofs.list_searcher.GraphListSearcher.search_any_anchored.Goals.{
  in-One,
  in-Several,
  in-Words,
}

pub returns-clause-found : goal.returns-clause-found
returns-clause-found c = λ trees regular is.
    let list = c.self.inside.graph.now in
    let of_list = rw (← c.self.view_is) at is in
    let haystack = c.args.haystack.now in
    let s = position_at haystack c.args.start in
    let inside = c.if-start-haystack.false in
    elim c.match-self.branch [
      | in-One w ↦
          let found = w.find_anchored.result in
          let row = w.find_anchored.new.self.memory.cache.best.row in
          let one = w.pattern-pattern.result in
          let own = w.pattern-pattern.ensures in
          let alone = rw w.in-One.is at c.self.invariant in
          subst (λ some. IsTrue some
          ↔ AnyMatchesAt false trees (chars haystack) (search_start haystack c.args.start))
          (sym (w.result-is ∙ w.is_some.ensures ∙ some_kept found row))
          (list_any_at_reported false trees list of_list haystack c.args.start inside regular
          (best_kept found row)
          (in_list list alone.0 alone.1 (places_of one.table.now) own.table one.entry own.entry
          (λ table entries. IsAnyTo table (chars haystack) entries false s s (best_kept found row))
          w.find_anchored.ensures.found))
      | in-Words w ↦
          let (answers, each) = rw w.in-Words.is at c.self.invariant in
          let reported = w.find_word_at.result in
          subst (λ some. IsTrue some
          ↔ AnyMatchesAt false trees (chars haystack) (search_start haystack c.args.start))
          (sym (w.result-is ∙ w.is_some-in-Words.ensures))
          (any_of_word trees list of_list haystack c.args.start inside regular reported
          (w.find_word_at.ensures (table_of_list list) list.entries answers each))
      | in-Several w ↦
          let found = w.find_any_anchored.result in
          subst (λ some. IsTrue some
          ↔ AnyMatchesAt false trees (chars haystack) (search_start haystack c.args.start))
          (sym (w.result-is ∙ w.is_some-in-Several.ensures ∙ some_kept found []))
          (list_any_at_reported false trees list of_list haystack c.args.start inside regular
          (best_kept found []) (w.find_any_anchored.ensures.found []))
    ]

pub invariant_of-self : goal.invariant_of-self
invariant_of-self c = elim c.match-self.branch [
  | in-One w ↦
      let alone = rw w.in-One.is at c.self.invariant in
      rw w.self-inside-is
      (still_one c.self.inside.graph.now alone.0 alone.1
      (places_of w.pattern-pattern.result.table.now) w.pattern-pattern.ensures.table
      w.pattern-pattern.result.entry w.pattern-pattern.ensures.entry w.find_anchored.new.self
      w.find_anchored.ensures.searches)
  | in-Words w ↦ rw w.self-inside-is (rw w.in-Words.is at c.self.invariant)
  | in-Several w ↦ rw w.self-inside-is w.find_any_anchored.ensures.searches
]
