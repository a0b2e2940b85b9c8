use Rattle.regex_lite_syntax.proofs.Common.{◌<◌, length, arith}
use Rattle.regex_lite_syntax.proofs.parse.escape.ReachLemmas.{six_too_many, last_reached}
use Rattle.regex_lite_syntax.proofs.parse.escape.hexadecimal.can_reach_at_all.Goals as goal

pub returns-then-number-eq0-clause-reached : goal.returns-then-number-eq0-clause-reached
returns-then-number-eq0-clause-reached c e =
    last_reached c.args.number c.args.least c.if-number-eq0.true (omega arith)

pub returns-clause-absent : goal.returns-clause-absent
returns-clause-absent c e further reaches =
    let many : length further < c.loop-digits.digits → ⊥ =
    λ few. c.loop-digits.invariant.none further few reaches in
    six_too_many c.args.number c.args.least further (omega arith) (omega (arith, many)) reaches
