use Rattle.regex_lite_engine.proofs.laws.PatternTreeLemmas.{regular_tree}
use Rattle.regex_lite_engine.proofs.laws.several.ListAnswerLemmas.{one_list_answer}
use Rattle.regex_lite_engine.proofs.laws.at_most_one_answer_of_list.Goals as goal

pub returns : goal.returns
returns c = λ trees given haystack s a b.
    one_list_answer trees haystack (λ k tree there. regular_tree tree (given k tree there)) s a b
