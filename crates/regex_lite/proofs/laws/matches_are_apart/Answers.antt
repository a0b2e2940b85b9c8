use Rattle.regex_lite.proofs.string.ListLemmas.{matches_apart, one_list}
use Rattle.regex_lite.proofs.laws.matches_are_apart.Goals as goal

pub returns-clause-apart : goal.returns-clause-apart
returns-clause-apart c = matches_apart

pub returns-clause-one_list : goal.returns-clause-one_list
returns-clause-one_list c = one_list
