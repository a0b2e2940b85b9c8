use Rattle.regex_lite_engine.proofs.Common.{arith}
use Rattle.std.proofs.lemmas.Grind.{common_steps}
use Rattle.regex_lite_engine.proofs.pikevm.rows.clear_row.Goals as goal

-- It has an answer because the prover would try other calls first, which takes long
pub returns-clause-cleared : goal.returns-clause-cleared
returns-clause-cleared c = grind (arith, common_steps)
