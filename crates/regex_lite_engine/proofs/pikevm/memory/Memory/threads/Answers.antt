use Rattle.regex_lite_engine.proofs.Common.{sym, arith}
use Rattle.regex_lite_engine.proofs.pikevm.memory.ViewLemmas.{counted}
use Rattle.regex_lite_engine.proofs.pikevm.memory.Memory.threads.Goals as goal

pub returns-clause-few : goal.returns-clause-few
returns-clause-few g c =
    let i = c.self.inside in let fit = c.self.invariant in
    omega (arith, fit.threads_fit, i.cells.ok.0, i.cells.small)

pub returns-clause-same : goal.returns-clause-same
returns-clause-same g c =
    sym (counted g.S.ThreadStart.reported c.self.inside c.self.view_is c.self.invariant).2
