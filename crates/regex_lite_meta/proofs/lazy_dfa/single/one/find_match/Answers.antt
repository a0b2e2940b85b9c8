use Rattle.regex_lite_meta.proofs.Common.{◌^◌, ◌<◌, length, arith, rules, places_of, position_at}
use Rattle.regex_lite_engine.proofs.search.OutcomeLemmas.{can_count}
use Rattle.regex_lite_meta.proofs.lazy_dfa.RunLemmas.{all_everywhere}
use Rattle.regex_lite_meta.proofs.lazy_dfa.single.one.find_match.Goals as goal

pub find_once-found-requires-clause-all : goal.find_once-found-requires-clause-all
find_once-found-requires-clause-all g c =
    all_everywhere c.everywhere-all.result c.everywhere-all.ensures.all

pub find_once-found-requires-clause-counts : goal.find_once-found-requires-clause-counts
find_once-found-requires-clause-counts g c =
    let haystack = c.args.haystack.now in
    let short : length haystack < 2 ^ 63 = search rules in
    can_count (places_of c.args.pattern.now.table.now) haystack
    (position_at haystack c.args.start) c.utf8.haystack short c.in_ok-cache.ensures.countable 1
    (omega arith)
