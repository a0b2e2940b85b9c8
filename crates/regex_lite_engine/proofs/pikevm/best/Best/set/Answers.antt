use Rattle.regex_lite_engine.proofs.Common.{arith}
use Rattle.std.proofs.lemmas.Grind.{common_steps}
use Rattle.regex_lite_engine.proofs.pikevm.best.Best.set.Goals as goal

-- The goals from here on need no lemma of their own. They have answers because the prover would
-- try other calls first, which takes long
pub returns-clause-found : goal.returns-clause-found
returns-clause-found g c = grind (arith, common_steps)

pub returns-clause-width : goal.returns-clause-width
returns-clause-width g c = grind (arith, common_steps)
