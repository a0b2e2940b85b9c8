use Rattle.regex_lite_syntax.proofs.Common.{◌≡◌, ℕ, ◌<◌, false, slice_index}
use Rattle.regex_lite_syntax.proofs.prefilter.words.pair.has_both.Given as goal

abbrev pub invariant-offsets : goal.invariant-offsets
invariant-offsets l = l.is_there ≡ false → (k : ℕ) → k < l.k
    → slice_index l.firsts k ≡ l.first → ¬ (slice_index l.seconds k ≡ l.second)
