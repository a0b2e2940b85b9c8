use Rattle.regex_lite_engine.proofs.laws.answer.OrderLemmas.{is_earlier, earlier_is_preferred}
use Rattle.regex_lite_engine.proofs.laws.preferred_ways_are_earlier.Goals as goal

pub returns : goal.returns
returns c = λ tree haystack i j way other is.
    (is_earlier tree haystack i j way other is, earlier_is_preferred tree haystack i way other)
