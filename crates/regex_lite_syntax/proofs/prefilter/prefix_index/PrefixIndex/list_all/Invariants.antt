use Rattle.regex_lite_syntax.proofs.Common.{◌≡◌, ◌≤◌, vec_capacity, range_with_len}
use Rattle.regex_lite_syntax.proofs.prefilter.prefix_index.PrefixIndex.list_all.Given as goal

abbrev pub invariant-loop-number : goal.invariant-loop-number
invariant-loop-number l = record {
  listed : l.numbers.items ≡ range_with_len 0 l.number;
  capacity : vec_capacity l.fn.numbers ≤ vec_capacity l.numbers;
  same : l.self ≡ l.fn.self;
}
