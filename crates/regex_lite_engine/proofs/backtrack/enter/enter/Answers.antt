use Rattle.regex_lite_engine.proofs.Common.{arith}
use Rattle.std.proofs.lemmas.Grind.{common_steps}
use Rattle.regex_lite_engine.proofs.backtrack.enter.enter.Goals as goal

-- It has an answer because the prover would try other calls first, which takes long
pub branch-deref-requires : goal.branch-deref-requires
branch-deref-requires c = grind (arith, common_steps)
