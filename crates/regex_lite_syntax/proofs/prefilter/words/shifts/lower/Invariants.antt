use Rattle.regex_lite_syntax.proofs.Common.{ℕ, ◌+◌, ◌<◌, ◌≤◌, List, slice_index, StartsWith}
use Rattle.regex_lite_syntax.specs.Prefilter.Shifts.{key_of}
use Rattle.regex_lite_syntax.proofs.prefilter.words.shifts.lower.Given as goal

-- shifts from the pairs so far don't pass the word
abbrev pub invariant-pairs : goal.invariant-pairs
invariant-pairs l = record {
  lower : (key : ℕ) → slice_index l.shifts key ≤ slice_index l.fn.shifts key;
  near : (bytes : List ℕ) (j : ℕ) → StartsWith l.word bytes → j < l.k
      → slice_index l.shifts (key_of (slice_index bytes j) (slice_index bytes (j + 1))) + j + 2
      ≤ l.reach;
}
