use Rattle.regex_lite_engine.proofs.laws.several.ListAnswerLemmas.{none_match}
use Rattle.regex_lite_engine.proofs.laws.none_match_nothing.Goals as goal

pub returns : goal.returns
returns c = none_match
