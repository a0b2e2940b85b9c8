use Rattle.regex_lite_engine.proofs.laws.PatternTreeLemmas.{regular_tree}
use Rattle.regex_lite_engine.proofs.laws.answer.AnswerLemmas.{one_answer}
use Rattle.regex_lite_engine.proofs.laws.at_most_one_answer.Goals as goal

pub returns : goal.returns
returns c = λ tree given haystack s a b.
    one_answer tree haystack (regular_tree tree given) s a b
