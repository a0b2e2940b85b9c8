use Rattle.regex_lite_engine.proofs.laws.templates.OneTextLemmas.{one_text}
use Rattle.regex_lite_engine.proofs.laws.templates_give_one_text.Goals as goal

pub returns : goal.returns
returns c = one_text
