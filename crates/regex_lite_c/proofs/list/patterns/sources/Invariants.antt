use Rattle.regex_lite_c.proofs.list.ListBuildLemmas.{IsCut}
use Rattle.regex_lite_c.proofs.list.patterns.sources.Given as goal

abbrev pub invariant-loop-pattern : goal.invariant-loop-pattern
invariant-loop-pattern l = IsCut l.bytes l.patterns l.rest l.pattern-index l.sources.items
