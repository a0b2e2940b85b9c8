use Rattle.regex_lite.proofs.laws.RegexListLemmas.{agree_on_list}
use Rattle.regex_lite.proofs.laws.list_searches_agree.Goals as goal

pub returns : goal.returns
returns c = λ list haystack start. agree_on_list list haystack start
