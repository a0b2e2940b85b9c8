use Rattle.regex_lite_engine.proofs.laws.PatternTreeLemmas.{regular_tree, numbered_tree}
use Rattle.regex_lite_engine.proofs.laws.groups.TakingPartLemmas.{enough_take_part}
use Rattle.regex_lite_engine.proofs.laws.enough_groups_take_part.Goals as goal

pub returns : goal.returns
returns c = λ tree given haystack found n.
    enough_take_part tree haystack found n (regular_tree tree given)
    (numbered_tree tree given)
