use Rattle.regex_lite_syntax.proofs.Common.{refl}
use Rattle.regex_lite_syntax.specs.Parser.Machine.{with_items}
use Rattle.regex_lite_syntax.specs.Parser.States.{state}
use Rattle.regex_lite_syntax.proofs.parse.Parser.set_flags.Goals as goal

pub returns : goal.returns
unfolding state with_items
returns c t u d = refl
