use Rattle.regex_lite_syntax.proofs.Common.{arith}
use Rattle.std.proofs.lemmas.Grind.{common_steps}
use Rattle.regex_lite_syntax.proofs.prefilter.prefix_index.rows.BitRows.blank.Goals as goal

-- It has an answer because the prover would try other calls first, which takes long
pub returns-clause-none : goal.returns-clause-none
returns-clause-none c = grind (arith, common_steps)
