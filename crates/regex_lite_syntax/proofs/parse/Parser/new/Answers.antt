use Rattle.regex_lite_syntax.proofs.Common.{refl}
use Rattle.regex_lite_syntax.specs.Parser.States.{state}
use Rattle.regex_lite_syntax.proofs.parse.Parser.new.Goals as goal

pub returns-clause-state : goal.returns-clause-state
unfolding state
returns-clause-state c pattern =
    rw (
      c.new.ensures,
      c.new-2.ensures.items,
      c.new-3.ensures.flags,
      c.new-3.ensures.branches,
      c.new-3.ensures.items,
    ) refl
