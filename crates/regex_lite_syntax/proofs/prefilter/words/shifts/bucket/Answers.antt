use Rattle.regex_lite_syntax.proofs.Common.{refl}
use Rattle.regex_lite_syntax.specs.Prefilter.Shifts.{bucket_at}
use Rattle.regex_lite_syntax.proofs.prefilter.words.shifts.bucket.Goals as goal

pub returns-clause-bucket : goal.returns-clause-bucket
unfolding bucket_at
returns-clause-bucket c = refl
