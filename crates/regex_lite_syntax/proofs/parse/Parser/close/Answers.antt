use Rattle.regex_lite_syntax.proofs.Common.{map, reverse, refl, frame_of, tree_of}
use Rattle.regex_lite_syntax.specs.Parser.Machine.{closed}
use Rattle.regex_lite_syntax.specs.Parser.States.{state}
use Rattle.regex_lite_syntax.proofs.machine.StateLemmas.{map_pushed, reverse_pushed}
use Rattle.regex_lite_syntax.proofs.parse.Parser.close.Goals as goal

pub returns-in_ok-push-in-Some-clause-closed : goal.returns-in_ok-push-in-Some-clause-closed
unfolding state closed
returns-in_ok-push-in-Some-clause-closed c e t u d = (
  frame_of c.in-Some.field-0,
  reverse (map frame_of c.pop.new.self.items),
  reverse_pushed frame_of _ _ _ c.in-Some.ensures.items,
  rw (
    map_pushed tree_of _ _ _ c.in_ok-push-in-Some.ensures.items,
    c.in_ok-into_tree-in-Some.ensures,
    c.in_ok-body-in-Some.ensures,
    c.replace-inner.ensures.value,
    c.replace-inner.ensures.after,
  ) refl,
)
