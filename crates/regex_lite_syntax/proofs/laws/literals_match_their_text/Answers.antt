use Rattle.regex_lite_syntax.proofs.grammar.LiteralMatchLemmas.{literal_matches}
use Rattle.regex_lite_syntax.proofs.laws.literals_match_their_text.Goals as goal

pub returns : goal.returns
returns c = literal_matches
