use Rattle.regex_lite.proofs.TextLemmas.{refused_for_memory, texts_rewrite}
use Rattle.regex_lite.proofs.laws.texts_rewrite_by_their_template.Goals as goal

pub returns-clause-rewritten : goal.returns-clause-rewritten
returns-clause-rewritten c = λ start. texts_rewrite _

pub returns-clause-refused : goal.returns-clause-refused
returns-clause-refused c = λ start. refused_for_memory _
