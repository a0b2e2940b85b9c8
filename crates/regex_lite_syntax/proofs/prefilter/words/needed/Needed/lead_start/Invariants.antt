use Rattle.regex_lite_syntax.proofs.Common.{◌≡◌, ◌≤◌, ◌<◌, ℕ, begins_with, slice_index, true}
use Rattle.regex_lite_syntax.proofs.prefilter.words.needed.Needed.lead_start.Given as goal

abbrev pub invariant-lead : goal.invariant-lead
invariant-lead l = record {
  low : l.from ≤ l.at;
  high : l.at ≤ l.word;
  led : (k : ℕ) → l.at ≤ k → k < l.word
      → begins_with l.self.lead (slice_index l.bytes k) ≡ true;
}

abbrev pub decreases-lead : goal.decreases-lead
decreases-lead l = l.at
