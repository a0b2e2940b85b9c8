use Rattle.regex_lite_meta.proofs.Common.{arith}
use Rattle.std.proofs.lemmas.Grind.{common_steps}
use Rattle.regex_lite_meta.proofs.lazy_dfa.reach.are_below.Goals as goal

pub entries-preserved : goal.entries-preserved
entries-preserved c = grind (arith, common_steps)
