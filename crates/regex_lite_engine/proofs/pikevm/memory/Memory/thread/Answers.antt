use Rattle.regex_lite_engine.proofs.Common.{sym, ap, arith, Thread}
use Rattle.regex_lite_engine.specs.Pikevm.Machine.{State}
use Rattle.regex_lite_engine.proofs.pikevm.memory.ListLemmas.{thread_read}
use Rattle.regex_lite_engine.proofs.pikevm.memory.ViewLemmas.{counted}
use Rattle.regex_lite_engine.proofs.pikevm.memory.Memory.thread.Goals as goal

pub index-requires : goal.index-requires
index-requires g c =
    let i = c.self.inside in let fit = c.self.invariant in
    let count = (counted g.S.ThreadStart.reported i c.self.view_is fit).2 in
    omega (arith, c.requires, count, fit.threads_fit, i.cells.ok.0)

pub returns-clause-place : goal.returns-clause-place
returns-clause-place g c =
    let i = c.self.inside in let v = c.self.view_is in let fit = c.self.invariant in
    let count = (counted g.S.ThreadStart.reported i v fit).2 in
    sym (ap (λ (t : Thread). t.0)
    (thread_read g.S.ThreadStart.reported i.side i.cells.items i.rows i.room
    (omega (arith, c.requires, count)) (omega (arith, c.requires, count, fit.threads_fit))
    c.index.ensures (ap (λ (z : State). z.threads) v) c.thread.ensures))

pub returns-clause-start : goal.returns-clause-start
returns-clause-start g c =
    let i = c.self.inside in let v = c.self.view_is in let fit = c.self.invariant in
    let count = (counted g.S.ThreadStart.reported i v fit).2 in
    sym (ap (λ (t : Thread). t.1)
    (thread_read g.S.ThreadStart.reported i.side i.cells.items i.rows i.room
    (omega (arith, c.requires, count)) (omega (arith, c.requires, count, fit.threads_fit))
    c.index.ensures (ap (λ (z : State). z.threads) v) c.thread.ensures))
