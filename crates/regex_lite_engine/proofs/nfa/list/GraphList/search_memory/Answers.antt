use Rattle.regex_lite_engine.proofs.Common.{◌^◌, ◌<◌, length, ap, arith, places_of}
use Rattle.regex_lite_engine.proofs.Common.{table_of_list}
use Rattle.regex_lite_engine.proofs.search.OutcomeLemmas.{can_count}
use Rattle.regex_lite_engine.proofs.nfa.list.GraphList.search_memory.Goals as goal

pub returns-clause-counts : goal.returns-clause-counts
returns-clause-counts g c = λ haystack s utf8 short.
    let list = c.args.self.now in
    let reported = c.entries-entries.ensures in
    let few : length list.entries < 2 ^ 32 = omega (arith, reported.few, ap length reported.same) in
    can_count (table_of_list list) haystack s utf8 short
    (rw (ap places_of c.table.ensures.same) at c.in_ok-cache.ensures.countable)
    (length list.entries) few
