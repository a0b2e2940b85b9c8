use Rattle.regex_lite_syntax.proofs.Common.{refl, frame_of}
use Rattle.regex_lite_syntax.specs.Parser.Machine.{opened}
use Rattle.regex_lite_syntax.specs.Parser.States.{state}
use Rattle.regex_lite_syntax.proofs.machine.StateLemmas.{reverse_pushed}
use Rattle.regex_lite_syntax.proofs.parse.Parser.open.Goals as goal

pub returns : goal.returns
unfolding state opened
returns c t u d =
    let inner = c.new-inner.ensures in
    rw (
      reverse_pushed frame_of _ _ _ c.in_ok-push.ensures.items,
      c.replace-outer.ensures.value,
      c.replace-outer.ensures.after,
      inner.flags,
      inner.branches,
      inner.items,
    ) refl
