use Rattle.regex_lite_syntax.proofs.Common.{◌≡◌, ◌++◌, replicate}
use Rattle.regex_lite_syntax.proofs.prefilter.words.list_words.own.Given as goal

-- with as many numbers as words so far
abbrev pub invariant-words : goal.invariant-words
invariant-words l = l.owners.items ≡ l.fn.owners.items ++ replicate l._k l.number
