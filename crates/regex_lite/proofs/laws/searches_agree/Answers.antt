use Rattle.regex_lite.proofs.AgreementLemmas.{agree}
use Rattle.regex_lite.proofs.laws.searches_agree.Goals as goal

pub returns : goal.returns
returns c = λ re haystack start. agree re haystack start
