use Rattle.regex_lite_engine.proofs.Common.{arith}
use Rattle.regex_lite_engine.proofs.search.SkipLemmas.{passes_where}
use Rattle.regex_lite_engine.proofs.search.start_finder.first_start.Goals as goal

pub returns-in-None-clause-passes : goal.returns-in-None-clause-passes
returns-in-None-clause-passes g c = λ p is here at stands.
    let found = c.first_known.ensures in
    passes_where is stands (omega (arith, at, found.low))
    (λ i within above below. found.passed i within above (omega (arith, below, at)))
