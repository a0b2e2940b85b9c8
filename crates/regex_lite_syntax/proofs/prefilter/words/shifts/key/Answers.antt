use Rattle.regex_lite_syntax.proofs.Common.{refl}
use Rattle.regex_lite_syntax.specs.Prefilter.Shifts.{key_of}
use Rattle.regex_lite_syntax.proofs.prefilter.words.shifts.key.Goals as goal

pub returns-clause-key : goal.returns-clause-key
unfolding key_of
returns-clause-key c = refl
