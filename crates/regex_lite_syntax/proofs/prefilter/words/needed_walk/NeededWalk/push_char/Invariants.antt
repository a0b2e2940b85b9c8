use Rattle.regex_lite_syntax.proofs.prefilter.words.NeededRowLemmas.{FindsFirst}
use Rattle.regex_lite_syntax.proofs.prefilter.words.needed_walk.NeededWalk.push_char.Given as goal

abbrev pub invariant-bytes : goal.invariant-bytes
invariant-bytes l = FindsFirst l.bytes l.k l.fn.self l.self
