use Rattle.regex_lite_syntax.proofs.Common.{refl}
use Rattle.regex_lite_syntax.specs.Prefilter.Shifts.{mixed}
use Rattle.regex_lite_syntax.proofs.prefilter.words.shifts.mixed.Goals as goal

pub returns : goal.returns
unfolding mixed
returns c = refl
