use Rattle.regex_lite_engine.proofs.Common.{arith}
use Rattle.regex_lite_engine.proofs.count.NameSizeLemmas.{name_length}
use Rattle.regex_lite_engine.proofs.count.name_size.Goals as goal

pub returns-in-Some : goal.returns-in-Some
returns-in-Some c =
    let whole = name_length c.in-Some.name in
    rw c.in-Some.is (omega (arith, whole))
