use Rattle.regex_lite_syntax.proofs.Common.{ℕ, ◌-◌, ◌*◌, ◌^◌, ◌<◌, ◌≤◌, GrowsTo}
use Rattle.regex_lite_syntax.proofs.grammar.MoreDigitsLemmas.{TooSmallOrFrom}
use Rattle.regex_lite_syntax.proofs.parse.counted.can_grow.Given as goal

abbrev pub invariant-loop-high : goal.invariant-loop-high
invariant-loop-high l = record {
  ordered : (l.low ≤ l.high) × (l.high < 2 ^ 32 * 10);
  -- the numbers that this many further digits make
  between : (n : ℕ) → l.low ≤ n → n ≤ l.high → GrowsTo l.number n;
  -- with fewer digits the number stays below the least
  others : (n : ℕ) → GrowsTo l.number n → TooSmallOrFrom l.least l.low l.high n;
}

abbrev pub decreases-loop-high : goal.decreases-loop-high
decreases-loop-high l = l.least - l.high
