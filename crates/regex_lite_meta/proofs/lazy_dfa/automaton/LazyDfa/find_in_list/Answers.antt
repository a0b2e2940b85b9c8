use Rattle.regex_lite_meta.proofs.Common.{position_at}
use Rattle.regex_lite_engine.proofs.search.list_patterns.ListStartLemmas.{all_of_entries}
use Rattle.regex_lite_meta.proofs.lazy_dfa.HereLemmas.{passed_edge, skips_there}
use Rattle.regex_lite_meta.proofs.lazy_dfa.automaton.LazyDfa.find_in_list.Goals as goal

pub pass_over-from-requires : goal.pass_over-from-requires
pass_over-from-requires g c =
    (position_at c.args.haystack.now c.args.start, c.at-from.ensures.here)

pub search-reported-requires-clause-all : goal.search-reported-requires-clause-all
search-reported-requires-clause-all g c =
    let reported = c.entries-entries.ensures in
    all_of_entries c.args.list.now c.entries-entries.result.now reported.same reported.inside
    reported.few

pub search-reported-requires-clause-on : goal.search-reported-requires-clause-on
search-reported-requires-clause-on g c =
    let s = position_at c.args.haystack.now c.args.start in
    let passed = c.pass_over-from.ensures s c.at-from.ensures.here in
    record {
      is_dfa = c.requires.is_dfa.is_dfa;
      none_pending = c.requires.is_dfa.none_pending;
      between = c.requires.between;
      boundary = passed_edge c.args.haystack.now c.utf8.haystack passed;
      counted = (s, skips_there c.args.haystack.now c.utf8.haystack passed, c.requires.counts);
      width = c.requires.width;
    }

pub returns-clause-found : goal.returns-clause-found
returns-clause-found g c =
    let s = position_at c.args.haystack.now c.args.start in
    c.in-Ok.ensures.found s
    (skips_there c.args.haystack.now c.utf8.haystack
    (c.pass_over-from.ensures s c.at-from.ensures.here))
