use Rattle.regex_lite_syntax.proofs.machine.WholeLemmas.{grammar_once}
use Rattle.regex_lite_syntax.proofs.laws.at_most_one_tree.Goals as goal

pub returns : goal.returns
returns c = grammar_once
