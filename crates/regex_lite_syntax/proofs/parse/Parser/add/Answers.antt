use Rattle.regex_lite_syntax.proofs.Common.{refl, tree_of}
use Rattle.regex_lite_syntax.specs.Parser.Machine.{with_items}
use Rattle.regex_lite_syntax.specs.Parser.States.{state}
use Rattle.regex_lite_syntax.proofs.machine.StateLemmas.{map_pushed}
use Rattle.regex_lite_syntax.proofs.parse.Parser.add.Goals as goal

pub returns : goal.returns
unfolding state with_items
returns c t u d = rw (map_pushed tree_of _ _ _ c.in_ok-push.ensures.items) refl
