use Rattle.regex_lite_syntax.proofs.prefilter.words.NeededSearchLemmas.{LooksFor}
use Rattle.regex_lite_syntax.proofs.prefilter.words.needed.Needed.next_below.Given as goal

abbrev pub invariant-words : goal.invariant-words
invariant-words l = LooksFor l.self.words l.k l.bytes l.from l.limit l.found l.end
