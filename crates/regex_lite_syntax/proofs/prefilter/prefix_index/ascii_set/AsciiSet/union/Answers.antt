use Rattle.regex_lite_syntax.proofs.prefilter.prefix_index.PairLemmas.{both_added}
use Rattle.regex_lite_syntax.proofs.prefilter.prefix_index.ascii_set.AsciiSet.union.Goals as goal

pub returns : goal.returns
returns c code lt = both_added c.args.self.words c.args.other.words code lt
