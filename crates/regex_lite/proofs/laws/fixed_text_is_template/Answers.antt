use Rattle.regex_lite.proofs.laws.ReplacedLemmas.{fixed_text}
use Rattle.regex_lite.proofs.laws.fixed_text_is_template.Goals as goal

pub returns : goal.returns
returns c = λ start. fixed_text _
