use Rattle.regex_lite_meta.proofs.Common.{chars, places_of, position_at}
use Rattle.regex_lite_engine.proofs.search.ListOutcomeLemmas.{cost_of_list, outcome_reported}
use Rattle.regex_lite_meta.proofs.OneLemmas.{outcome_of_one}
use Rattle.regex_lite_meta.proofs.once.search_list.Goals as goal

pub returns-in-Some-clause-found : goal.returns-in-Some-clause-found
returns-in-Some-clause-found c = λ trees regular is.
    let list = c.args.list.now in
    let haystack = c.args.haystack.now in
    let one = c.in-Some.pattern in
    let alone = c.in-Some.ensures in
    outcome_reported trees list is haystack c.args.start c.if-start-haystack.false regular
    c.first_of_list.result
    (rw (c.first_of_list.ensures, alone.entry, ← alone.table)
    (outcome_of_one (places_of one.table.now) (chars haystack) one.entry
    (position_at haystack c.args.start) c.in_ok-found.found c.in_ok-found.ensures.found))

pub returns-in-Some-clause-cost : goal.returns-in-Some-clause-cost
returns-in-Some-clause-cost c = λ trees is.
    let alone = c.in-Some.ensures in
    cost_of_list trees c.args.list.now is c.args.haystack.now c.args.start
    c.if-start-haystack.false c.in_ok-found.steps
    (rw (alone.entry, ← alone.table) c.in_ok-found.ensures.cost)
