use Rattle.regex_lite_syntax.proofs.Common.{ℕ, ◌<◌, ◌≤◌, length, word_at}
use Rattle.regex_lite_syntax.specs.Prefilter.WordLists.{all_words}
use Rattle.regex_lite_syntax.proofs.prefilter.words.are_long.Given as goal

abbrev pub invariant-words : goal.invariant-words
invariant-words l =
    (number : ℕ) → number < l.number → 2 ≤ length (word_at (all_words l.list) number)
