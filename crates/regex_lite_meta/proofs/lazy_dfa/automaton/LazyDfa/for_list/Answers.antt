use Rattle.regex_lite_engine.proofs.search.list_patterns.ListStartLemmas.{all_of_entries}
use Rattle.regex_lite_meta.proofs.lazy_dfa.automaton.LazyDfa.for_list.Goals as goal

pub for_patterns-requires : goal.for_patterns-requires
for_patterns-requires c =
    let reported = c.entries-entries.ensures in
    all_of_entries c.args.list.now c.entries-entries.result.now reported.same reported.inside
    reported.few
