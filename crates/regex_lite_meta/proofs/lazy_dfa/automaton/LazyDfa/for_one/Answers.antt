use Rattle.regex_lite_meta.proofs.lazy_dfa.RunLemmas.{all_everywhere}
use Rattle.regex_lite_meta.proofs.lazy_dfa.automaton.LazyDfa.for_one.Goals as goal

pub for_patterns-requires : goal.for_patterns-requires
for_patterns-requires c = all_everywhere c.everywhere.result c.everywhere.ensures.all

pub returns : goal.returns
returns c = rw (c.everywhere.ensures.table, c.everywhere.ensures.entry) at c.for_patterns.ensures
