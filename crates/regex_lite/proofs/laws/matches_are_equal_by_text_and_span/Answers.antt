use Rattle.regex_lite.proofs.string.EqualityLemmas.{by_span, same_match_equiv}
use Rattle.regex_lite.proofs.laws.matches_are_equal_by_text_and_span.Goals as goal

pub returns-clause-equivalence : goal.returns-clause-equivalence
returns-clause-equivalence c = same_match_equiv

pub returns-clause-by_text : goal.returns-clause-by_text
returns-clause-by_text c = by_span
