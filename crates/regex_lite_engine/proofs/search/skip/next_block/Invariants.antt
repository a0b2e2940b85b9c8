use Rattle.regex_lite_engine.proofs.Common.{◌≡◌, ℕ, ◌+◌, ◌-◌, ◌<◌, ◌≤◌, false, length, slice_index}
use Rattle.regex_lite_syntax.specs.Prefilter.Bytes.{suits}
use Rattle.regex_lite_engine.proofs.search.skip.next_block.Given as goal

abbrev pub invariant-all : goal.invariant-all
invariant-all l = record {
  low : l.from ≤ l.at;
  high : l.at ≤ length l.bytes;
  passed : (k : ℕ) → l.from ≤ k → k < l.at → (k + 1 < length l.bytes)
      × (suits l.prefilter (slice_index l.bytes k) (slice_index l.bytes (k + 1)) ≡ false);
}

abbrev pub decreases-all : goal.decreases-all
decreases-all l = length l.bytes - l.at
