use Rattle.regex_lite_engine.proofs.Common.{arith}
use Rattle.std.proofs.lemmas.Grind.{common_steps}
use Rattle.regex_lite_engine.proofs.pikevm.rows.fill_to.Goals as goal

-- It has an answer because the prover would try other calls first, which takes long
pub returns-then-len-end-clause-items : goal.returns-then-len-end-clause-items
returns-then-len-end-clause-items c = grind (arith, common_steps)
