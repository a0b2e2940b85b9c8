use Rattle.regex_lite_meta.proofs.Common.{Some, [], chars, ◌∙◌, subst, sym}
use Rattle.regex_lite_meta.proofs.Common.{nil_from_length, table_of_list, position_at}
use Rattle.regex_lite_meta.proofs.Common.{best_kept, best_reported}
use Rattle.regex_lite_engine.specs.Search.NumberedOutcomes.{IsBestOutcomeTo}
use Rattle.regex_lite_syntax.proofs.OptionLemmas.{not_there}
use Rattle.regex_lite_meta.proofs.AnchoredSpanLemmas.{from_to, still_to}
use Rattle.regex_lite_meta.proofs.several_searcher.SeveralSearcher.find_anchored.Goals as goal
use Rattle.regex_lite_meta.proofs.several_searcher.SeveralSearcher.find_anchored.Goals.{
  After-deref_mut,
}

pub returns-in_default-clause-found : goal.returns-in_default-clause-found
returns-in_default-clause-found c =
    let list = c.args.graph.now in
    let haystack = c.args.haystack.now in
    let s = position_at haystack c.args.start in
    rw c.in_default.is
    (subst (IsBestOutcomeTo (table_of_list list) (chars haystack) list.entries s s)
    (c.numbered.ensures c.find_anchored.new.self.cache.best.row)
    c.in_ok-found.ensures.found)

-- where slots are searched for once the match is known, its search has kept none
without_slots : (c : After-deref_mut) → IsBestOutcomeTo (table_of_list c.args.graph.now)
    (chars c.args.haystack.now) c.args.graph.now.entries
    (position_at c.args.haystack.now c.args.start)
    (position_at c.args.haystack.now c.args.start) (best_reported (Some c.in_ok-found.found))
without_slots c =
    let list = c.args.graph.now in
    let s = position_at c.args.haystack.now c.args.start in
    let before = rw c.in-Some.is at c.requires.searches.slots in
    subst (λ row. IsBestOutcomeTo (table_of_list list) (chars c.args.haystack.now) list.entries
    s s (best_kept (Some c.in_ok-found.found) row))
    (nil_from_length c.find_anchored.new.self.cache.best.row
    (c.find_anchored.ensures.width ∙ before.0))
    c.in_ok-found.ensures.found

pub find_slots-requires-clause-found : goal.find_slots-requires-clause-found
find_slots-requires-clause-found c =
    let list = c.args.graph.now in
    let s = position_at c.args.haystack.now c.args.start in (
      s,
      from_to (table_of_list list) (chars c.args.haystack.now) list.entries s s
          (Some c.in_ok-found.found) [] (λ none. not_there (sym none))
          (without_slots (goal.at.find_slots-requires-clause-found c).After-deref_mut),
    )

pub returns-clause-found : goal.returns-clause-found
returns-clause-found c =
    let list = c.args.graph.now in
    let haystack = c.args.haystack.now in
    let s = position_at haystack c.args.start in
    let own = without_slots (goal.at.returns-clause-found c).After-deref_mut in
    still_to (table_of_list list) (chars haystack) list.entries s s
    (best_reported (Some c.in_ok-found.found)) _ (λ none. not_there (sym none)) own
    (c.find_slots.ensures.found s
    (from_to (table_of_list list) (chars haystack) list.entries s s (Some c.in_ok-found.found) []
    (λ none. not_there (sym none)) own))
