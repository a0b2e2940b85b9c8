use Rattle.regex_lite_syntax.proofs.Common.{◌≡◌, ℕ, ◌<◌, length, slice_index, NeverPasses, word_at}
use Rattle.regex_lite_syntax.specs.Prefilter.WordLists.{all_words}
use Rattle.regex_lite_syntax.proofs.prefilter.words.shifts.shifts_of.Given as goal

-- shifts don't pass the words so far
abbrev pub invariant-words : goal.invariant-words
invariant-words l = record {
  keys : length l.shifts.items ≡ 1024;
  below : (key : ℕ) → slice_index l.shifts.items key < l.reach;
  near : (number : ℕ) → number < l.number
      → NeverPasses l.reach l.shifts.items (word_at (all_words l.words) number);
}
