use Rattle.regex_lite_meta.proofs.Common.{arith}
use Rattle.std.proofs.lemmas.Grind.{common_steps}
use Rattle.regex_lite_meta.proofs.lazy_dfa.automaton.LazyDfa.gather.Goals as goal

-- The goals from here on need no lemma of their own. They have answers because the prover would
-- try other calls first, which takes long
pub threads-preserved : goal.threads-preserved
threads-preserved c = grind (arith, common_steps)

pub returns-clause-gathered : goal.returns-clause-gathered
returns-clause-gathered c = grind (arith, common_steps)
