use Rattle.regex_lite_meta.proofs.Common.{arith}
use Rattle.std.proofs.lemmas.Grind.{common_steps}
use Rattle.regex_lite_meta.proofs.lazy_dfa.find.may_load.Goals as goal

-- The goals from here on need no lemma of their own. They have answers because the prover would
-- try other calls first, which takes long
pub ways-preserved : goal.ways-preserved
ways-preserved c = grind (arith, common_steps)

pub returns-then-is_empty-clause-before : goal.returns-then-is_empty-clause-before
returns-then-is_empty-clause-before c = grind (arith, common_steps)
