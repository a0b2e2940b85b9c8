use Rattle.regex_lite_syntax.proofs.Common.{◌-◌, ◌<◌}
use Rattle.regex_lite_syntax.proofs.prefilter.words.shifts.buckets_for.Given as goal

abbrev pub invariant-buckets : goal.invariant-buckets
invariant-buckets l = 0 < l.buckets

abbrev pub decreases-buckets : goal.decreases-buckets
decreases-buckets l = l.words - l.buckets
