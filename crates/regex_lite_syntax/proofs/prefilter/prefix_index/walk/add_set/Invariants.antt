use Rattle.regex_lite_syntax.proofs.Common.{◌≡◌, ◌^◌, ◌<◌, ◌≤◌, ◌++◌, vec_capacity, set_from}
use Rattle.regex_lite_syntax.proofs.prefilter.prefix_index.walk.add_set.Given as goal

-- what is listed, and what is left, are together what there was at first
abbrev pub invariant-loop-left : goal.invariant-loop-left
invariant-loop-left l = record {
  together : l.numbers.items ++ set_from l.lowest l.left
      ≡ l.fn.numbers.items ++ set_from l.fn.lowest l.fn.word;
  capacity : vec_capacity l.fn.numbers ≤ vec_capacity l.numbers;
  lowest : l.lowest ≡ l.fn.lowest;
  small : l.left < 2 ^ 64;
}

abbrev pub decreases-loop-left : goal.decreases-loop-left
decreases-loop-left l = l.left
