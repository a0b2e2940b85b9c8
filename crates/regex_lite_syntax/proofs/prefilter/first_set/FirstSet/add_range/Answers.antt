use Rattle.regex_lite_syntax.proofs.Common.{arith}
use Rattle.regex_lite_syntax.proofs.prefilter.first_set.StartLemmas.{in_span}
use Rattle.regex_lite_syntax.proofs.prefilter.first_set.FirstSet.add_range.Goals as goal

pub returns-clause-grown : goal.returns-clause-grown
returns-clause-grown c = c.loop-code.invariant.grown

pub returns-clause-added : goal.returns-clause-added
returns-clause-added c = λ d inside. (
    let v = c.loop-code.invariant in
    let end = c.min-end.ensures in
    let done = c.loop-code-test.false in
    in_span c.loop-code.self c.args.range.start c.args.range.end d v.any v.others
    (λ e low high. v.filled e low (omega (arith, end, done, high))) inside)
