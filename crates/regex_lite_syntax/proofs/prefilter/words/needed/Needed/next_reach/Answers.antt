use Rattle.regex_lite_syntax.proofs.Common.{subst, sym}
use Rattle.regex_lite_syntax.specs.Prefilter.Needed.{IsNextReach}
use Rattle.regex_lite_syntax.proofs.prefilter.words.LeadLemmas.{never_reached, next_reached}
use Rattle.regex_lite_syntax.proofs.prefilter.words.needed.Needed.next_reach.Goals as goal

pub returns-in_err-word : goal.returns-in_err-word
returns-in_err-word c =
    subst (IsNextReach c.args.self.now c.args.bytes.now c.args.from) (sym c.from_residual.ensures)
    (never_reached c.args.self.now c.args.bytes.now c.args.from c.in_err-word.ensures.next)

pub returns : goal.returns
returns c =
    let known = c.in_ok-word.ensures.next in
    let start = c.lead_start-from.ensures in
    next_reached c.args.self.now c.args.bytes.now c.args.from c.lead_start-from.result
    c.in_ok-word.word start.low start.high known.1 known.2 start.led start.stops
