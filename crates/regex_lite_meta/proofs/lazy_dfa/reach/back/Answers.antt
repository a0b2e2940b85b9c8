use Rattle.regex_lite_meta.proofs.Common.{arith}
use Rattle.regex_lite_meta.proofs.lazy_dfa.reach.back.Goals as goal

pub steps-init : goal.steps-init
steps-init c = λ p is. (p, is, omega arith)

pub before-requires : goal.before-requires
before-requires c =
    let from = c.requires in
    let here = c.steps.invariant from.0 from.1 in
    (here.0, here.1)

pub steps-preserved : goal.steps-preserved
steps-preserved c = λ p is.
    let here = c.steps.invariant p is in
    let next = c.in-Some.ensures here.0 here.1 in
    let so_far = here.2 in
    let one = next.2 in
    (next.0, next.1, omega (arith, so_far, one))

pub returns-clause-here : goal.returns-clause-here
returns-clause-here c = λ p is.
    let here = c.steps.invariant p is in
    let all = here.2 in
    let over = c.steps-test.false in
    let within = c.steps.auto.k-end in
    (here.0, here.1, omega (arith, all, over, within))
