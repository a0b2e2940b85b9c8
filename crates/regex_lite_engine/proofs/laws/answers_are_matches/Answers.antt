use Rattle.regex_lite_engine.proofs.laws.PatternTreeLemmas.{regular_tree}
use Rattle.regex_lite_engine.proofs.laws.answer.AnswerLemmas.{answer_matches}
use Rattle.regex_lite_engine.proofs.laws.answers_are_matches.Goals as goal

pub returns : goal.returns
returns c = λ tree given haystack s answer.
    answer_matches tree haystack (regular_tree tree given) s answer
