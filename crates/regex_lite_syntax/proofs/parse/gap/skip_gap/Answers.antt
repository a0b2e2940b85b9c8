use Rattle.regex_lite_syntax.proofs.Common.{arith}
use Rattle.regex_lite_syntax.proofs.grammar.ScanLemmas.{spacing_of_scan}
use Rattle.regex_lite_syntax.proofs.parse.gap.skip_gap.Goals as goal

pub loop-end-init : goal.loop-end-init
loop-end-init c =
    record { inside = (omega arith, omega arith); goes = λ rest s. spacing_of_scan _ rest s }
