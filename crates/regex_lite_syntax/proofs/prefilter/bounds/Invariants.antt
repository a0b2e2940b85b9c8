use Rattle.regex_lite_syntax.proofs.Common.{ℕ, ◌<◌, ◌≤◌, slice_index}
use Rattle.regex_lite_syntax.proofs.prefilter.bounds.Given as goal

abbrev pub invariant-loop-k : goal.invariant-loop-k
invariant-loop-k l = (k : ℕ) → k < l.k
    → (l.low ≤ slice_index l.bytes k) × (slice_index l.bytes k ≤ l.high)
