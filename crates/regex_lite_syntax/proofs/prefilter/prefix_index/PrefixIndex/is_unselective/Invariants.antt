use Rattle.regex_lite_syntax.proofs.Common.{◌≡◌, ◌≤◌, length, take}
use Rattle.std.specs.Prelude.{filter}
use Rattle.regex_lite_syntax.specs.Prefilter.Pairs.{is_wide}
use Rattle.regex_lite_syntax.proofs.prefilter.prefix_index.PrefixIndex.is_unselective.Given as goal

abbrev pub invariant-loop-k : goal.invariant-loop-k
invariant-loop-k l = record {
  all : l.often ≡ length (filter is_wide (take l.k l.self.pairs.items));
  few : l.often ≤ l.k;
}
