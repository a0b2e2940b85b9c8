use Rattle.regex_lite_syntax.proofs.Common.{◌≤◌, subst, arith}
use Rattle.regex_lite_syntax.proofs.prefilter.FillLemmas.{stands_somewhere}
use Rattle.regex_lite_syntax.proofs.prefilter.bounds.Goals as goal

pub returns : goal.returns
returns c = λ byte is.
    let (i, below, there) = stands_somewhere c.args.bytes.now byte is in
    subst (λ z. (c.loop-k.low ≤ z) × (z ≤ c.loop-k.high)) there
    (c.loop-k.invariant i (omega (arith, below, c.loop-k-test.false)))
