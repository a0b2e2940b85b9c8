use Rattle.regex_lite_syntax.proofs.Common.{refl}
use Rattle.regex_lite_syntax.specs.Parser.Machine.{parted}
use Rattle.regex_lite_syntax.specs.Parser.States.{state}
use Rattle.regex_lite_syntax.proofs.parse.Parser.end_branch.Goals as goal

pub returns : goal.returns
unfolding state parted
returns c t u d =
    let ended = c.in_ok-end_branch.ensures in
    rw (ended.flags, ended.branches, ended.items) refl
