use Rattle.regex_lite_syntax.proofs.Common.{◌<◌, length}
use Rattle.regex_lite_syntax.proofs.prefilter.words.pair.Pair.of.Given as goal

abbrev pub invariant-letters : goal.invariant-letters
invariant-letters l = (l.first < length l.word) × (l.second < length l.word)
