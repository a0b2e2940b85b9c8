use Rattle.regex_lite_syntax.proofs.Common.{take, in_ranges, IsWider}
use Rattle.regex_lite_syntax.specs.Prefilter.FirstSet.{HasAll}
use Rattle.regex_lite_syntax.proofs.prefilter.first_set.FirstSet.add_class.Given as goal

abbrev pub invariant-loop-range : goal.invariant-loop-range
invariant-loop-range l = record {
  grown : IsWider l.fn.self l.self;
  added : HasAll l.self (in_ranges (take l.range-index l.set));
}
