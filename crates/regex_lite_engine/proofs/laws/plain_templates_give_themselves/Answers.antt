use Rattle.regex_lite_engine.proofs.laws.templates.OneTextLemmas.{plain_text}
use Rattle.regex_lite_engine.proofs.laws.plain_templates_give_themselves.Goals as goal

pub returns : goal.returns
returns c = plain_text
