use Rattle.regex_lite_syntax.specs.Prefilter.Needed.{HavePairs}
use Rattle.regex_lite_syntax.proofs.prefilter.words.needed.pairs_of.Given as goal

abbrev pub invariant-words : goal.invariant-words
invariant-words l = HavePairs l.words l.k l.pairs
