use Rattle.regex_lite_meta.proofs.Common.{◌^◌, ◌<◌, ◌==◌, not, length, chars, refl, ap, subst}
use Rattle.regex_lite_meta.proofs.Common.{arith, rules, position_at, table_of_list, nil_from_length}
use Rattle.regex_lite_meta.proofs.Common.{IsFoundOf}
use Rattle.regex_lite_engine.proofs.pikevm.PassLemmas.{begun}
use Rattle.regex_lite_engine.proofs.pikevm.StopLemmas.{over_found}
use Rattle.regex_lite_engine.proofs.search.OutcomeLemmas.{can_count}
use Rattle.regex_lite_meta.proofs.lazy_dfa.list_spans.ListSpanSearcher.find.Goals as goal

pub find_by_dfa-requires-clause-counts : goal.find_by_dfa-requires-clause-counts
find_by_dfa-requires-clause-counts g c =
    let list = c.args.list.now in
    let haystack = c.args.haystack.now in
    let short : length haystack < 2 ^ 63 = search rules in
    let reported = c.entries-entries.ensures in
    let few : length list.entries < 2 ^ 32 = omega (arith, reported.few, ap length reported.same) in
    can_count (table_of_list list) haystack (position_at haystack c.args.start) c.utf8.haystack
    short (c.requires.finds.goes_on c.requires.some).1 (length list.entries) few

pub advance-requires-clause-on : goal.advance-requires-clause-on
advance-requires-clause-on g c =
    let list = c.args.list.now in
    let haystack = c.args.haystack.now in
    let s = position_at haystack c.args.start in
    let short : length haystack < 2 ^ 63 = search rules in
    let reported = c.entries-entries.ensures in
    let few : length list.entries < 2 ^ 32 = omega (arith, reported.few, ap length reported.same) in (
      s,
      s,
      c.at-here.ensures.here,
      rw (c.requires.finds.table, c.requires.finds.entries)
          (can_count (table_of_list list) haystack s c.utf8.haystack short
          (c.requires.finds.goes_on c.requires.some).1 (length list.entries) few),
      rw (c.requires.finds.table, c.requires.finds.entries)
          (begun _ _ _ s c.restart.new.cache
          (c.restart.ensures.fresh (table_of_list list) c.find_by_dfa.ensures.between)),
    )

pub returns-clause-found : goal.returns-clause-found
returns-clause-found g c =
    let haystack = c.args.haystack.now in
    let s = position_at haystack c.args.start in
    let fresh = c.restart.ensures.fresh (table_of_list c.args.list.now)
    c.find_by_dfa.ensures.between in
    let stops = c.advance.ensures.stops s s c.at-here.ensures.here
    (rw (c.requires.finds.table, c.requires.finds.entries)
    (begun _ _ _ s c.restart.new.cache fresh)) in
    subst (IsFoundOf (not (g.row.EARLIEST == 0)) (table_of_list c.args.list.now) (chars haystack)
    c.args.list.now.entries s) c.found.ensures
    (rw (c.requires.finds.table, c.requires.finds.entries) at
    (over_found (rw (c.advance.ensures.all refl) at stops)))

pub returns-in-Some-clause-found : goal.returns-in-Some-clause-found
returns-in-Some-clause-found g c =
    let row = nil_from_length c.find_by_dfa.new.cache.best.row
    c.in-Some.ensures.without_slots in
    rw row c.in-Some.ensures.found
