use Rattle.regex_lite_engine.proofs.laws.PatternTreeLemmas.{regular_tree}
use Rattle.regex_lite_engine.proofs.laws.groups.SpanLemmas.{groups_inside}
use Rattle.regex_lite_engine.proofs.laws.groups_lie_inside.Goals as goal

pub returns : goal.returns
returns c = λ tree given haystack found.
    groups_inside tree haystack found (regular_tree tree given)
