use Rattle.regex_lite_syntax.proofs.Common.{◌≤◌}
use Rattle.regex_lite_syntax.proofs.prefilter.first_set.FirstSet.len.Given as goal

abbrev pub invariant-loop-k : goal.invariant-loop-k
invariant-loop-k l = l.len ≤ l.k
