use Rattle.regex_lite_engine.proofs.Common.{None, arith, strip_prefix_char}
use Rattle.regex_lite_engine.proofs.interpolate.find_cap_ref.Goals as goal

pub find_bare-requires : goal.find_bare-requires
find_bare-requires c =
    strip_prefix_char 123 c.args.after.now None c.in-None.ensures.cases (omega arith)
