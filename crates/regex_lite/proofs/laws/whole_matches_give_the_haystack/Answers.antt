use Rattle.regex_lite.proofs.laws.ReplacedLemmas.{whole_matches}
use Rattle.regex_lite.proofs.laws.whole_matches_give_the_haystack.Goals as goal

pub returns : goal.returns
returns c = λ start. whole_matches _
