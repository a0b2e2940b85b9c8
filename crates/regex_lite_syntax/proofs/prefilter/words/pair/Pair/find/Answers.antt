use Rattle.regex_lite_syntax.proofs.Common.{arith}
use Rattle.regex_lite_syntax.proofs.prefilter.words.NextLemmas.{next_at_all}
use Rattle.regex_lite_syntax.proofs.prefilter.words.pair.Pair.find.Goals as goal

pub returns : goal.returns
returns c =
    next_at_all c.args.word.now c.args.bytes.now c.args.from c.find_below.result
    (omega (arith, c.requires.first)) c.find_below.ensures.next
