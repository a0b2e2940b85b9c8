use Rattle.regex_lite_syntax.proofs.RangeLemmas.{runs_once}
use Rattle.regex_lite_syntax.proofs.laws.equal_sets_have_equal_ranges.Goals as goal

pub returns : goal.returns
returns c = runs_once
