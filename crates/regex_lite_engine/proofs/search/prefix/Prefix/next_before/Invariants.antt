use Rattle.regex_lite_engine.proofs.Common.{ℕ, ◌-◌, ◌<◌, ◌≤◌, IsPassed}
use Rattle.regex_lite_engine.specs.Search.Prefixes.{sets_of_prefix}
use Rattle.regex_lite_engine.proofs.search.prefix.Prefix.next_before.Given as goal

abbrev pub invariant-bytes : goal.invariant-bytes
invariant-bytes l = record {
  low : l.from ≤ l.at;
  high : l.at ≤ l.end;
  passed : (k : ℕ) → l.from ≤ k → k < l.at
      → IsPassed (sets_of_prefix l.self.first l.self.second) l.bytes k;
}

abbrev pub decreases-bytes : goal.decreases-bytes
decreases-bytes l = l.end - l.at
