use Rattle.regex_lite_syntax.proofs.Common.{ℕ, ◌<◌, ◌≤◌, length, word_at}
use Rattle.regex_lite_syntax.specs.Prefilter.WordLists.{all_words}
use Rattle.regex_lite_syntax.proofs.prefilter.words.shifts.shortest.Given as goal

-- none of the words so far is shorter
abbrev pub invariant-words : goal.invariant-words
invariant-words l = record {
  two : 2 ≤ l.least;
  least : (number : ℕ) → number < l.number
      → l.least ≤ length (word_at (all_words l.words) number);
}
