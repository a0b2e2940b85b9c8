use Rattle.regex_lite_engine.proofs.Common.{chars, position_at}
use Rattle.regex_lite_engine.proofs.search.one_pattern.OnePattern.may_start_at.Goals as goal

pub returns : goal.returns
returns c = λ off.
    let one = c.args.self.now in
    let haystack = c.args.haystack.now in
    let s = position_at haystack c.args.start in
    one.facts (chars haystack) s (c.may_start.ensures off s c.at.ensures.here)
