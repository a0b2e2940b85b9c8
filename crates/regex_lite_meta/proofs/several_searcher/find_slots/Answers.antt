use Rattle.regex_lite_meta.proofs.Common.{table_of_list}
use Rattle.regex_lite_meta.proofs.lazy_dfa.PassedLemmas.{alone, number_within, one_of_list}
use Rattle.regex_lite_meta.proofs.lazy_dfa.PassedLemmas.{one_there}
use Rattle.regex_lite_meta.proofs.several_searcher.find_slots.Goals as goal

pub pattern-pattern-requires : goal.pattern-pattern-requires
pattern-pattern-requires c =
    let list = c.args.graph.now in
    let known = c.requires.found in
    number_within (table_of_list list) c.args.haystack.now c.utf8.haystack list.entries known.0
    c.args.found.0 c.args.found.1 known.1

pub find_in_span-requires-clause-finds : goal.find_in_span-requires-clause-finds
find_in_span-requires-clause-finds c = rw c.pattern-pattern.ensures.table c.requires.finds

pub find_in_span-requires-clause-known : goal.find_in_span-requires-clause-known
find_in_span-requires-clause-known c =
    let list = c.args.graph.now in
    let known = c.requires.found in
    let own = c.pattern-pattern.ensures in (
      known.0,
      rw (own.table, own.entry)
          (alone (table_of_list list) c.args.haystack.now c.utf8.haystack list.entries known.0
          c.args.found.0 c.args.found.1 known.1),
    )

pub returns-clause-found : goal.returns-clause-found
returns-clause-found c = λ s known.
    let list = c.args.graph.now in
    let table = table_of_list list in
    let haystack = c.args.haystack.now in
    let own = c.pattern-pattern.ensures in
    let match_start = c.args.found.0 in
    let end = c.args.found.1 in
    one_of_list table haystack c.utf8.haystack list.entries s match_start end known
    c.in_ok-span.span c.find_in_span.new.self.cache.best.row
    (rw c.in_ok-span.was at ((rw (own.table, own.entry) at c.find_in_span.ensures.found) s
    (alone table haystack c.utf8.haystack list.entries s match_start end known)))

pub returns-in_err-span-clause-found : goal.returns-in_err-span-clause-found
returns-in_err-span-clause-found c = λ s known.
    let list = c.args.graph.now in
    let table = table_of_list list in
    let haystack = c.args.haystack.now in
    let own = c.pattern-pattern.ensures in
    let match_start = c.args.found.0 in
    let end = c.args.found.1 in
    absurd (one_there table haystack c.utf8.haystack list.entries s match_start end known
    (rw c.in_err-span.was at ((rw (own.table, own.entry) at c.find_in_span.ensures.found) s
    (alone table haystack c.utf8.haystack list.entries s match_start end known))))

pub returns-clause-finds : goal.returns-clause-finds
returns-clause-finds c = rw (← c.pattern-pattern.ensures.table) c.find_in_span.ensures.finds
