use Rattle.regex_lite_engine.proofs.laws.PatternTreeLemmas.{regular_tree}
use Rattle.regex_lite_engine.proofs.laws.answer.AnswerLemmas.{has_answer}
use Rattle.regex_lite_engine.proofs.laws.search_has_an_answer.Goals as goal

pub returns : goal.returns
returns c = λ tree given haystack s.
    has_answer tree haystack (regular_tree tree given) s
