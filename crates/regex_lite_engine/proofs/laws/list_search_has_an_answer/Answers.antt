use Rattle.regex_lite_engine.proofs.laws.PatternTreeLemmas.{regular_tree}
use Rattle.regex_lite_engine.proofs.laws.several.ListAnswerLemmas.{has_list_answer}
use Rattle.regex_lite_engine.proofs.laws.list_search_has_an_answer.Goals as goal

pub returns : goal.returns
returns c = λ trees given haystack s.
    has_list_answer trees haystack s (λ k tree there. regular_tree tree (given k tree there))
