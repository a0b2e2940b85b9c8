use Rattle.regex_lite_engine.proofs.Common.{arith}
use Rattle.regex_lite_engine.proofs.count.ReadingCountLemmas.{reading_few}
use Rattle.regex_lite_engine.proofs.count.Counts.reading.Goals as goal

pub returns : goal.returns
returns c = λ tree counted fits.
    let few = reading_few tree in let same = counted.reading in omega arith
