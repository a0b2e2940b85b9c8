use Rattle.regex_lite_engine.proofs.Common.{ℕ, ◌-◌, ◌<◌, ◌≤◌, length, IsPassed}
use Rattle.regex_lite_engine.proofs.search.skip.next_offset.Given as goal

abbrev pub invariant-stops : goal.invariant-stops
invariant-stops l = record {
  low : l.from ≤ l.at;
  high : l.at ≤ length l.bytes;
  passed : (k : ℕ) → l.from ≤ k → k < l.at → IsPassed l.prefixes l.bytes k;
}

abbrev pub decreases-stops : goal.decreases-stops
decreases-stops l = length l.bytes - l.at
