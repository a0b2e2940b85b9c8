use Rattle.regex_lite.proofs.laws.ResultLemmas.{each_shows, each_shows_of_list}
use Rattle.regex_lite.proofs.laws.each_search_shows_whether_there_is_a_match.Goals as goal

pub returns-clause-one : goal.returns-clause-one
returns-clause-one c = each_shows

pub returns-clause-several : goal.returns-clause-several
returns-clause-several c = each_shows_of_list
