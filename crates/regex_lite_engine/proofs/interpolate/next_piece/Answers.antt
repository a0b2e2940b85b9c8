use Rattle.regex_lite_engine.proofs.Common.{None, arith, strip_prefix_char}
use Rattle.std.proofs.lemmas.Grind.{common_steps}
use Rattle.regex_lite_engine.proofs.interpolate.next_piece.Goals as goal

pub split_text-requires-clause-start : goal.split_text-requires-clause-start
split_text-requires-clause-start c =
    strip_prefix_char 36 c.args.template.now None c.in-None.ensures.cases (omega arith)

-- It has an answer because the prover would try other calls first, which takes long
pub returns-then-is_empty-clause-cut : goal.returns-then-is_empty-clause-cut
returns-then-is_empty-clause-cut c = grind (arith, common_steps)
