use Rattle.regex_lite_syntax.proofs.Common.{arith}
use Rattle.std.proofs.lemmas.Grind.{common_steps}
use Rattle.regex_lite_syntax.proofs.prefilter.first_set.FirstSet.passes.Goals as goal

-- It has an answer because the prover would try other calls first, which takes long
pub returns : goal.returns
returns c = grind (arith, common_steps)
