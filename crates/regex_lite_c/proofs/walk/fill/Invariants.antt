use Rattle.regex_lite_c.proofs.walk.WalkLemmas.{AreFirstWritten}
use Rattle.regex_lite_c.proofs.walk.fill.Given as goal

abbrev pub invariant-loop-k : goal.invariant-loop-k
invariant-loop-k g l =
    let kind = g.M.Sought.Written.kind in
    AreFirstWritten kind.found_of kind.IsAnswerTo kind.stands_for kind.tell
    (g.M.Spans.ahead l.fn.matches) (g.M.Spans.ahead l.matches) l.fn.spans l.spans l.k
