use Rattle.regex_lite.proofs.laws.AnchoredLawLemmas.{finds_at, list_finds_at}
use Rattle.regex_lite.proofs.laws.anchored_searches_find_the_match_there.Goals as goal

pub returns-clause-one : goal.returns-clause-one
returns-clause-one c = λ re haystack start utf8 can. finds_at haystack utf8 start can re

pub returns-clause-several : goal.returns-clause-several
returns-clause-several c = λ list haystack start utf8 can.
    list_finds_at haystack utf8 start can list
