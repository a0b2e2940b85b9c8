use Rattle.regex_lite_syntax.proofs.Common.{◌≡◌, ◌*◌, ◌≤◌, Some, vec_capacity, range_with_len}
use Rattle.regex_lite_syntax.proofs.Common.{may_start}
use Rattle.std.proofs.Common.{filter}
use Rattle.regex_lite_syntax.proofs.prefilter.prefix_index.PrefixIndex.list.Given as goal

abbrev pub invariant-loop-k : goal.invariant-loop-k
invariant-loop-k l = record {
  listed : l.numbers.items
      ≡ filter (may_start l.fn.self l.fn.before (Some l.fn.first) l.fn.second)
      (range_with_len 0 (64 * l.k));
  capacity : vec_capacity l.fn.numbers ≤ vec_capacity l.numbers;
  same : l.self ≡ l.fn.self;
}
