use Rattle.regex_lite_engine.proofs.laws.several.ListAnswerLemmas.{alone_in_list, alone_by_itself}
use Rattle.regex_lite_engine.proofs.laws.one_answers_by_itself.Goals as goal

pub returns : goal.returns
returns c = λ tree given haystack s answer.
    (alone_in_list tree haystack s answer, alone_by_itself tree haystack s answer)
