use Rattle.regex_lite.proofs.laws.RegexListLemmas.{alone, one_is_accepted}
use Rattle.regex_lite.proofs.laws.list_of_one_answers_as_its_regex.Goals as goal

pub returns-clause-accepted : goal.returns-clause-accepted
returns-clause-accepted c = one_is_accepted

pub returns-clause-answers : goal.returns-clause-answers
returns-clause-answers c = λ re haystack start. alone re haystack start
