use Rattle.regex_lite.proofs.string.EscapedLemmas.{refused_for_size, escaped_matches}
use Rattle.regex_lite.proofs.laws.escaped_texts_match_themselves.Goals as goal

pub returns-clause-refused : goal.returns-clause-refused
returns-clause-refused c = λ text error utf8 due. refused_for_size text utf8 error due

pub returns-clause-matches : goal.returns-clause-matches
returns-clause-matches c = escaped_matches
