use Rattle.regex_lite.proofs.laws.RegexListLemmas.{nothing}
use Rattle.regex_lite.proofs.laws.empty_list_finds_nothing.Goals as goal

pub returns : goal.returns
returns c = λ haystack start. nothing haystack start
