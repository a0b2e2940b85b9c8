use Rattle.regex_lite_engine.proofs.Common.{arith}
use Rattle.regex_lite_engine.proofs.ArrowBoundLemmas.{arrows_few}
use Rattle.regex_lite_engine.proofs.count.Counts.arrows.Goals as goal

pub returns : goal.returns
returns c = λ tree counted regular fits.
    let few = arrows_few tree regular in let same = counted.arrows in omega arith
