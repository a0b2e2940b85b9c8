use Rattle.regex_lite_engine.proofs.Common.{None, refl, arith, strip_prefix_char, reference}
use Rattle.regex_lite_engine.proofs.Common.{one_dollar}
use Rattle.regex_lite_engine.proofs.interpolate.at_dollar.Goals as goal

pub returns-in-Some-find_cap_ref-clause-cut : goal.returns-in-Some-find_cap_ref-clause-cut
returns-in-Some-find_cap_ref-clause-cut c =
    reference c.args.after.now c.in-Some-find_cap_ref.name.now c.requires
    c.in-Some-find_cap_ref.ensures.found c.referred.ensures

pub returns-in-None-clause-cut : goal.returns-in-None-clause-cut
returns-in-None-clause-cut c =
    one_dollar c.requires
    (strip_prefix_char 36 c.args.after.now None c.in_default.ensures.cases (omega arith))
    c.in-None.ensures.found refl
