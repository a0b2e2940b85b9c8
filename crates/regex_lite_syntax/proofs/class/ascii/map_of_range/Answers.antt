use Rattle.regex_lite_syntax.proofs.Common.{◌<◌, arith, nat_tests}
use Rattle.regex_lite_syntax.proofs.class.AsciiMapLemmas.{bits_between}
use Rattle.regex_lite_syntax.proofs.class.ascii.map_of_range.Goals as goal

pub returns : goal.returns
returns c d within =
    let starts : c.args.range.start < 128 = grind (arith, nat_tests) in
    let ends : c.min-end.result < 128 = grind (arith, nat_tests) in
    rw (bits_between c.args.range.start c.min-end.result d starts ends within)
    (grind (arith, nat_tests))
