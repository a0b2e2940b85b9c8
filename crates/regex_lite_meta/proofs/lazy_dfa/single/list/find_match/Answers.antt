use Rattle.regex_lite_meta.proofs.Common.{◌^◌, ◌<◌, length, sym, ap, subst, arith, rules}
use Rattle.regex_lite_meta.proofs.Common.{places_of, table_of_list, position_at}
use Rattle.regex_lite_engine.proofs.search.ListOutcomeLemmas.{cost_of_list}
use Rattle.regex_lite_engine.proofs.search.OutcomeLemmas.{can_count}
use Rattle.regex_lite_engine.proofs.search.list_patterns.ListStartLemmas.{all_of_entries}
use Rattle.regex_lite_meta.proofs.lazy_dfa.single.list.find_match.Goals as goal

pub cache_for-requires : goal.cache_for-requires
cache_for-requires g c =
    subst (λ places. 0 < length places) (ap (λ t. t.places) (sym c.table.ensures.same))
    c.requires.places

pub find_once-found-requires-clause-all : goal.find_once-found-requires-clause-all
find_once-found-requires-clause-all g c =
    let reported = c.entries-entries.ensures in
    all_of_entries c.args.list.now c.entries-entries.result.now reported.same reported.inside
    reported.few

pub find_once-found-requires-clause-fresh : goal.find_once-found-requires-clause-fresh
find_once-found-requires-clause-fresh g c =
    rw (c.in_ok-patterns.ensures.list, ← ap places_of c.table.ensures.same)
    c.in_ok-cache.ensures.fresh

pub find_once-found-requires-clause-counts : goal.find_once-found-requires-clause-counts
find_once-found-requires-clause-counts g c =
    let haystack = c.args.haystack.now in
    let list = c.args.list.now in
    let short : length haystack < 2 ^ 63 = search rules in
    let reported = c.entries-entries.ensures in
    let few : length list.entries < 2 ^ 32 = omega (arith, reported.few, ap length reported.same) in
    rw c.in_ok-patterns.ensures.list
    (can_count (table_of_list list) haystack (position_at haystack c.args.start) c.utf8.haystack
    short (rw (ap places_of c.table.ensures.same) at c.in_ok-cache.ensures.countable)
    (length list.entries) few)

pub returns-clause-found : goal.returns-clause-found
returns-clause-found g c = rw c.in_ok-patterns.ensures.list at c.find_once-found.ensures.found

pub returns-clause-cost : goal.returns-clause-cost
returns-clause-cost g c = λ trees is.
    cost_of_list trees c.args.list.now is c.args.haystack.now c.args.start c.requires.boundary.0
    c.find_once-found.new.cache.walk.steps
    (rw c.in_ok-patterns.ensures.list at c.find_once-found.ensures.bounded)
