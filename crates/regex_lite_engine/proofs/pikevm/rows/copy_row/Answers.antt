use Rattle.regex_lite_engine.proofs.Common.{arith}
use Rattle.std.proofs.lemmas.Grind.{common_steps}
use Rattle.regex_lite_engine.proofs.pikevm.rows.copy_row.Goals as goal

-- The goals from here on need no lemma of their own. They have answers because the prover would
-- try other calls first, which takes long
pub returns-then-from-to-clause-copied : goal.returns-then-from-to-clause-copied
returns-then-from-to-clause-copied c = grind (arith, common_steps)

pub returns-else-from-to-clause-copied : goal.returns-else-from-to-clause-copied
returns-else-from-to-clause-copied c = grind (arith, common_steps)
