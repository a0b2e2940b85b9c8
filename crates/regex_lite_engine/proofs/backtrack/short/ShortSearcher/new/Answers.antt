use Rattle.regex_lite_engine.proofs.Common.{arith}
use Rattle.std.proofs.lemmas.Grind.{common_steps}
use Rattle.regex_lite_engine.proofs.backtrack.short.ShortSearcher.new.Goals as goal

pub returns-clause-searches : goal.returns-clause-searches
returns-clause-searches c = grind (arith, common_steps)

-- The goals from here on need no lemma of their own. They have answers because the prover would
-- try other calls first, which takes long
pub returns-then-offsets-lt2-clause-none : goal.returns-then-offsets-lt2-clause-none
returns-then-offsets-lt2-clause-none c = grind (arith, common_steps)

pub returns-clause-width : goal.returns-clause-width
returns-clause-width c = grind (arith, common_steps)
