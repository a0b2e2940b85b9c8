use Rattle.regex_lite_syntax.proofs.Common.{◌≡◌, ◌++◌, take}
use Rattle.regex_lite_syntax.specs.Prefilter.WordLists.{all_words}
use Rattle.regex_lite_syntax.proofs.prefilter.words.list_words.append.Given as goal

-- with the words so far
abbrev pub invariant-words : goal.invariant-words
invariant-words l = all_words l.list ≡ all_words l.fn.list ++ take l.number (all_words l.more)
