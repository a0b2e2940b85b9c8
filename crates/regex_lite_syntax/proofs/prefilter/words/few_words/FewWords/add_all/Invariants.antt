use Rattle.regex_lite_syntax.proofs.Common.{◌≡◌, ◌≤◌, ◌++◌, take}
use Rattle.regex_lite_syntax.proofs.prefilter.words.few_words.FewWords.add_all.Given as goal

abbrev pub invariant-words : goal.invariant-words
invariant-words l = record {
  few : l.self-inside.len ≤ 4;
  added : take l.self-inside.len l.self-inside.words ≡ l.fn.self ++ take l.word-index l.fn.other;
}
