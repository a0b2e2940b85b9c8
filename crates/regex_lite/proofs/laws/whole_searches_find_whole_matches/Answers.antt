use Rattle.regex_lite.proofs.string.WholeLemmas.{finds_whole, list_finds_whole}
use Rattle.regex_lite.proofs.laws.whole_searches_find_whole_matches.Goals as goal

pub returns-clause-one : goal.returns-clause-one
returns-clause-one c = λ re haystack utf8. finds_whole haystack utf8 re

pub returns-clause-several : goal.returns-clause-several
returns-clause-several c = λ list haystack utf8. list_finds_whole haystack utf8 list
