use Rattle.regex_lite_syntax.proofs.grammar.EscapedLemmas.{escaped_literal}
use Rattle.regex_lite_syntax.proofs.laws.escaped_texts_are_literal.Goals as goal

pub returns : goal.returns
returns c = escaped_literal
