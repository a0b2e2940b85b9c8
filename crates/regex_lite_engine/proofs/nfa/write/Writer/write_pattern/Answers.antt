use Rattle.regex_lite_engine.proofs.Common.{arith}
use Rattle.std.proofs.lemmas.Grind.{common_steps}
use Rattle.regex_lite_engine.proofs.nfa.write.Writer.write_pattern.Goals as goal

-- The goals from here on need no lemma of their own. They have answers because the prover would
-- try other calls first, which takes long
pub write_group-requires-clause-room : goal.write_group-requires-clause-room
write_group-requires-clause-room c = grind (arith, common_steps)

pub returns : goal.returns
returns c = record {
  written = grind (arith, common_steps);
  grown = grind (arith, common_steps);
}
