use Rattle.regex_lite_engine.proofs.laws.answer.OrderLemmas.{total}
use Rattle.regex_lite_engine.proofs.laws.preference_is_total.Goals as goal

pub returns : goal.returns
returns c = λ tree haystack i j k way other p q. total tree haystack i j k way other p q
