use Rattle.regex_lite_engine.proofs.laws.PatternTreeLemmas.{regular_tree}
use Rattle.regex_lite_engine.proofs.laws.list.RankedWalkLemmas.{all_ranked}
use Rattle.regex_lite_engine.proofs.laws.list_is_of_all_ways.Goals as goal

pub returns : goal.returns
returns c = λ tree given reading haystack i.
    all_ranked tree haystack i (regular_tree tree given) reading
