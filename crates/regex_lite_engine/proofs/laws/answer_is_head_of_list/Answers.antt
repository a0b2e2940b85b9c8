use Rattle.regex_lite_engine.proofs.laws.PatternTreeLemmas.{regular_tree}
use Rattle.regex_lite_engine.proofs.laws.list.HeadLemmas.{answer_first}
use Rattle.regex_lite_engine.proofs.laws.answer_is_head_of_list.Goals as goal

pub returns : goal.returns
returns c = λ tree given reading haystack s found.
    answer_first tree haystack (regular_tree tree given) reading s found
