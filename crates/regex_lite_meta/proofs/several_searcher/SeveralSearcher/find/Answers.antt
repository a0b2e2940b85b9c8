use Rattle.regex_lite_meta.proofs.Common.{Some, chars, ◌∙◌, subst}
use Rattle.regex_lite_meta.proofs.Common.{nil_from_length, table_of_list, position_at}
use Rattle.regex_lite_meta.proofs.Common.{IsBestOutcomeOf, best_kept, best_reported}
use Rattle.regex_lite_meta.proofs.several_searcher.SeveralSearcher.find.Goals as goal
use Rattle.regex_lite_meta.proofs.several_searcher.SeveralSearcher.find.Goals.{After-deref_mut}

pub returns-in_default-clause-found : goal.returns-in_default-clause-found
returns-in_default-clause-found c =
    let list = c.args.graph.now in
    let haystack = c.args.haystack.now in
    rw c.in_default.is
    (subst (IsBestOutcomeOf (table_of_list list) (chars haystack) list.entries
    (position_at haystack c.args.start)) (c.numbered.ensures c.find.new.self.cache.best.row)
    c.in_ok-found.ensures.found)

-- where slots are searched for once the match is known, its search has kept none
without_slots : (c : After-deref_mut) → IsBestOutcomeOf (table_of_list c.args.graph.now)
    (chars c.args.haystack.now) c.args.graph.now.entries
    (position_at c.args.haystack.now c.args.start) (best_reported (Some c.in_ok-found.found))
without_slots c =
    let list = c.args.graph.now in
    let before = rw c.in-Some.is at c.requires.searches.slots in
    subst (λ row. IsBestOutcomeOf (table_of_list list) (chars c.args.haystack.now) list.entries
    (position_at c.args.haystack.now c.args.start) (best_kept (Some c.in_ok-found.found) row))
    (nil_from_length c.find.new.self.cache.best.row (c.find.ensures.width ∙ before.0))
    c.in_ok-found.ensures.found

pub find_slots-requires-clause-found : goal.find_slots-requires-clause-found
find_slots-requires-clause-found c = (
  position_at c.args.haystack.now c.args.start,
  without_slots (goal.at.find_slots-requires-clause-found c).After-deref_mut,
)

pub returns-clause-found : goal.returns-clause-found
returns-clause-found c =
    c.find_slots.ensures.found (position_at c.args.haystack.now c.args.start)
    (without_slots (goal.at.returns-clause-found c).After-deref_mut)
