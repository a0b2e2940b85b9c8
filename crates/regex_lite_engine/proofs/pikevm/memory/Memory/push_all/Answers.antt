use Rattle.regex_lite_engine.proofs.Common.{arith}
use Rattle.std.proofs.lemmas.Grind.{common_steps}
use Rattle.regex_lite_engine.proofs.pikevm.memory.Memory.push_all.Goals as goal

-- The goals from here on need no lemma of their own. They have answers because the prover would
-- try other calls first, which takes long
pub loop-i-init : goal.loop-i-init
loop-i-init g c = grind (arith, common_steps)

pub push-requires : goal.push-requires
push-requires g c = grind (arith, common_steps)

pub loop-i-preserved : goal.loop-i-preserved
loop-i-preserved g c = grind (arith, common_steps)
