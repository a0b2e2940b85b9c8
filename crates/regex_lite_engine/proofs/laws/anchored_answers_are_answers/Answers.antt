use Rattle.regex_lite_engine.proofs.Common.{arith}
use Rattle.regex_lite_engine.proofs.laws.answer.AnswerAtLemmas.{found_at, found_from}
use Rattle.regex_lite_engine.proofs.laws.anchored_answers_are_answers.Goals as goal

pub returns : goal.returns
returns c = λ tree haystack s found. (
  λ at. (at.start, found_from tree haystack s found at),
  λ (same, is). found_at tree haystack s found is (omega (arith, same)),
)
