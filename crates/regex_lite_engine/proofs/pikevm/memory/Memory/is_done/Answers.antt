use Rattle.regex_lite_engine.proofs.Common.{ap, arith, length, nat_tests, nil_from_length}
use Rattle.regex_lite_engine.proofs.pikevm.memory.ViewLemmas.{counted}
use Rattle.regex_lite_engine.proofs.pikevm.memory.Memory.is_done.Goals as goal

pub returns : goal.returns
returns g c =
    let held = (counted g.S.ThreadStart.reported c.self.inside c.self.view_is c.self.invariant).1 in (
      (λ yes. nil_from_length c.args.self.now.frames (grind (arith, nat_tests, held, yes))),
      (λ none. (let empty = ap length none in grind (arith, nat_tests, held, empty))),
    )
