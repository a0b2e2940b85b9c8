use Rattle.regex_lite.proofs.laws.FirstMatchLemmas.{finds_first, from_the_start}
use Rattle.regex_lite.proofs.laws.searches_find_the_first_match.Goals as goal

pub returns-clause-first : goal.returns-clause-first
returns-clause-first c = λ re haystack start utf8 can. finds_first haystack utf8 start can re

pub returns-clause-anywhere : goal.returns-clause-anywhere
returns-clause-anywhere c = from_the_start
