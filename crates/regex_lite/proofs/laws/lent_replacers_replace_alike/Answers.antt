use Rattle.regex_lite.proofs.laws.ReplacedLemmas.{lent_alike}
use Rattle.regex_lite.proofs.laws.lent_replacers_replace_alike.Goals as goal

pub returns : goal.returns
returns c = λ start. lent_alike _ _ _
