use Rattle.regex_lite_engine.proofs.Common.{ℕ, ◌+◌, ◌-◌, ◌<◌, ◌≤◌, length, IsPassedByAll}
use Rattle.regex_lite_engine.proofs.search.list_skip.next_offset.Given as goal

abbrev pub invariant-fours : goal.invariant-fours
invariant-fours l = record {
  low : l.from ≤ l.at;
  high : l.at ≤ length l.bytes;
  passed : (k : ℕ) → l.from ≤ k → k < l.at → IsPassedByAll l.prefixes l.bytes k;
}

abbrev pub decreases-fours : goal.decreases-fours
decreases-fours l = length l.bytes - l.at

abbrev pub invariant-loop-k : goal.invariant-loop-k
invariant-loop-k l = record {
  low : l.from ≤ l.at;
  high : l.at + 4 ≤ length l.bytes;
  passed : (k : ℕ) → l.from ≤ k → k < l.at + l.k → IsPassedByAll l.prefixes l.bytes k;
}

abbrev pub invariant-ones : goal.invariant-ones
invariant-ones l = record {
  low : l.from ≤ l.at;
  high : l.at ≤ length l.bytes;
  passed : (k : ℕ) → l.from ≤ k → k < l.at → IsPassedByAll l.prefixes l.bytes k;
}

abbrev pub decreases-ones : goal.decreases-ones
decreases-ones l = length l.bytes - l.at
