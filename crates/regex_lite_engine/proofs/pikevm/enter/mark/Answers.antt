use Rattle.regex_lite_engine.proofs.Common.{arith}
use Rattle.std.proofs.lemmas.Grind.{common_steps}
use Rattle.regex_lite_engine.proofs.pikevm.enter.mark.Goals as goal

-- It has an answer because the prover would try other calls first, which takes long
pub returns-after-not-is_done-clause-marked : goal.returns-after-not-is_done-clause-marked
returns-after-not-is_done-clause-marked g c = grind (arith, common_steps)
