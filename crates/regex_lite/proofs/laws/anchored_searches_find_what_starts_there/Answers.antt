use Rattle.regex_lite.proofs.string.AnchoredLemmas.{search_at}
use Rattle.regex_lite.proofs.string.ListAnchoredLemmas.{list_search_at}
use Rattle.regex_lite.proofs.laws.anchored_searches_find_what_starts_there.Goals as goal

pub returns-clause-one : goal.returns-clause-one
returns-clause-one c = λ re haystack start utf8 can. search_at haystack utf8 start can re

pub returns-clause-several : goal.returns-clause-several
returns-clause-several c = λ list haystack start utf8 can.
    list_search_at haystack utf8 start can list
