use Rattle.regex_lite_engine.proofs.Common.{◌≡◌, ℕ, ◌+◌, ◌-◌, ◌<◌, ◌≤◌, false, slice_index}
use Rattle.regex_lite_engine.proofs.Common.{stops_at}
use Rattle.regex_lite_engine.proofs.search.skip.next_stop.Given as goal

abbrev pub invariant-fours : goal.invariant-fours
invariant-fours l = record {
  low : l.from ≤ l.at;
  high : l.at ≤ l.end;
  passed : (k : ℕ) → l.from ≤ k → k < l.at → stops_at l.starts (slice_index l.bytes k) ≡ false;
}

abbrev pub decreases-fours : goal.decreases-fours
decreases-fours l = l.end - l.at

abbrev pub invariant-loop-k : goal.invariant-loop-k
invariant-loop-k l = record {
  low : l.from ≤ l.at;
  high : l.at + 4 ≤ l.end;
  passed : (k : ℕ) → l.from ≤ k → k < l.at + l.k
      → stops_at l.starts (slice_index l.bytes k) ≡ false;
}

abbrev pub invariant-ones : goal.invariant-ones
invariant-ones l = record {
  low : l.from ≤ l.at;
  high : l.at ≤ l.end;
  passed : (k : ℕ) → l.from ≤ k → k < l.at → stops_at l.starts (slice_index l.bytes k) ≡ false;
}

abbrev pub decreases-ones : goal.decreases-ones
decreases-ones l = l.end - l.at
