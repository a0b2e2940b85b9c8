use Rattle.regex_lite_engine.proofs.laws.PatternTreeLemmas.{regular_tree}
use Rattle.regex_lite_engine.proofs.laws.several.ListAnswerLemmas.{list_answers}
use Rattle.regex_lite_engine.proofs.laws.list_answers_are_answers.Goals as goal

pub returns : goal.returns
returns c = λ trees given haystack s answer.
    list_answers trees haystack (λ k tree there. regular_tree tree (given k tree there)) s answer
