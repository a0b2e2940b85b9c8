use Rattle.regex_lite_syntax.proofs.prefilter.prefix_index.PairLemmas.{just_one}
use Rattle.regex_lite_syntax.proofs.prefilter.prefix_index.ascii_set.AsciiSet.just.Goals as goal

pub returns : goal.returns
returns c other lt = just_one c.args.code c.requires other lt
