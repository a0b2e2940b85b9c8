use Rattle.regex_lite.proofs.laws.GroupFactLemmas.{groups_have_spans, list_match_is_group_0}
use Rattle.regex_lite.proofs.laws.GroupFactLemmas.{match_is_group_0}
use Rattle.regex_lite.proofs.laws.match_is_group_0.Goals as goal

pub returns-clause-one : goal.returns-clause-one
returns-clause-one c = match_is_group_0

pub returns-clause-several : goal.returns-clause-several
returns-clause-several c = list_match_is_group_0

pub returns-clause-each : goal.returns-clause-each
returns-clause-each c = groups_have_spans
