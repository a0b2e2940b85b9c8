use Rattle.regex_lite_syntax.proofs.Common.{arith, leb-true}
use Rattle.std.proofs.lemmas.Bool.{leb-false}
use Rattle.regex_lite_syntax.proofs.parse.escape.ReachLemmas.{reached, unreached}
use Rattle.regex_lite_syntax.proofs.parse.escape.hexadecimal.can_reach.Goals as goal

pub returns-then-least-last-clause-reached : goal.returns-then-least-last-clause-reached
returns-then-least-last-clause-reached c from =
    let says = c.last_char_to-last.ensures in
    let made = reached c.loop.counter c.args.number c.args.least _ _ _ c.loop.invariant.low
    c.loop.invariant.high says.scalar says.inside c.if-least-last.true (leb-true _ _ from) in
    (made.0, made.1, omega (arith, made.2))

pub returns-then-least-last-clause-absent : goal.returns-then-least-last-clause-absent
returns-then-least-last-clause-absent c below further count reaches =
    let before = leb-false _ _ below in
    unreached c.loop.counter c.args.number c.args.least _ _ _ c.loop.invariant.low
    c.loop.invariant.high c.last_char_to-last.ensures.last
    (λ d from far to. omega (arith, before, from, to)) further (omega (arith, count)) reaches

pub returns-else-least-last-clause-absent : goal.returns-else-least-last-clause-absent
returns-else-least-last-clause-absent c below further count reaches =
    unreached c.loop.counter c.args.number c.args.least _ _ _ c.loop.invariant.low
    c.loop.invariant.high c.last_char_to-last.ensures.last
    (λ d from far to. omega (arith, c.if-least-last.false, far, to)) further
    (omega (arith, count)) reaches
