use Rattle.regex_lite.proofs.laws.FirstOfListLemmas.{list_finds_first}
use Rattle.regex_lite.proofs.laws.list_searches_find_the_first_match.Goals as goal

pub returns : goal.returns
returns c = λ list haystack start utf8 can. list_finds_first haystack utf8 start can list
