use Rattle.regex_lite_engine.proofs.Common.{◌<◌, length, chars, sym, ap, ◌∙◌, subst, arith}
use Rattle.regex_lite_engine.proofs.Common.{range_with_len, table_of_list, is_candidate_at}
use Rattle.std.specs.List.{All, filter}
use Rattle.regex_lite_syntax.proofs.prefilter.prefix_index.WalkLemmas.{filter_at_most}
use Rattle.regex_lite_engine.proofs.search.list_patterns.ListStartLemmas.{all_below, listed_start}
use Rattle.regex_lite_engine.proofs.search.list_patterns.list_starts.Goals as goal

pub list_at_end-requires-clause-room : goal.list_at_end-requires-clause-room
list_at_end-requires-clause-room c = c.requires.room

pub returns-in_default-clause-starts : goal.returns-in_default-clause-starts
returns-in_default-clause-starts c p is =
    c.list_at_end.ensures.starts (chars c.args.haystack.now) p is

pub list_by_index-requires-clause-few : goal.list_by_index-requires-clause-few
list_by_index-requires-clause-few c =
    let same = ap length c.entries-entries.ensures.same in
    omega (arith, c.prefixes.ensures.count, same, c.entries-entries.ensures.few)

pub list_by_index-requires-clause-room : goal.list_by_index-requires-clause-room
list_by_index-requires-clause-room c = omega (arith, c.prefixes.ensures.count, c.requires.room)

pub returns-clause-starts : goal.returns-clause-starts
returns-clause-starts c p is =
    let list = c.args.list.now in
    let haystack = chars c.args.haystack.now in
    listed_start (table_of_list list) haystack list.entries c.prefixes.result.now c.prefixes.ensures
    p c.list_by_index.new.numbers.items
    (c.list_by_index.ensures.listed p is
    ∙ ap (λ n. filter (is_candidate_at c.prefixes.result.now haystack p) (range_with_len 0 n))
    c.prefixes.ensures.count)

pub returns-clause-inside : goal.returns-clause-inside
returns-clause-inside c =
    let n = length c.args.list.now.entries in
    let prefixes = c.prefixes.result.now in
    subst (All (λ number. number < n))
    (sym (c.list_by_index.ensures.listed c.requires.here.0 c.requires.here.1))
    (all_below (is_candidate_at prefixes (chars c.args.haystack.now) c.requires.here.0) 0
    prefixes.count n (omega (arith, c.prefixes.ensures.count)))

pub returns-clause-few : goal.returns-clause-few
returns-clause-few c =
    let prefixes = c.prefixes.result.now in
    let listed = ap length (c.list_by_index.ensures.listed c.requires.here.0 c.requires.here.1) in
    let most = filter_at_most
    (is_candidate_at prefixes (chars c.args.haystack.now) c.requires.here.0) 0 prefixes.count in
    omega (arith, listed, most, c.prefixes.ensures.count)
