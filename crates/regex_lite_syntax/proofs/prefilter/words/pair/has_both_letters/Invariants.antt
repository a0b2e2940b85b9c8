use Rattle.regex_lite_syntax.proofs.Common.{◌≡◌, ℕ, ◌<◌, false, slice_index, IsLetter}
use Rattle.regex_lite_syntax.proofs.prefilter.words.pair.has_both_letters.Given as goal

abbrev pub invariant-offsets : goal.invariant-offsets
invariant-offsets l = l.is_there ≡ false → (k : ℕ) → k < l.k
    → IsLetter l.first (slice_index l.firsts k) → ¬ IsLetter l.second (slice_index l.seconds k)
