use Rattle.regex_lite_engine.proofs.Common.{◌≡◌, ◌-◌, ◌≤◌, length, slice_get, Some, ap, ◌∙◌, arith}
use Rattle.regex_lite_engine.proofs.pikevm.ThreadLemmas.{begun_taken}
use Rattle.std.proofs.lemmas.Grind.{common_steps}
use Rattle.regex_lite_engine.proofs.pikevm.walk.Walk.load_thread.Goals as goal

pub returns-clause-thread : goal.returns-clause-thread
returns-clause-thread g c =
    let a = c.args in
    let m = a.self.now.memory in
    let reported = g.S.ThreadStart.reported_of a.at in
    let starts = g.P.Patterns.starts a.patterns.now in
    let same = c.threads-threads.ensures.same in
    let beyond : length m.threads ≤ a.k = omega (arith, same, c.if-k-threads.false) in
    let index : a.k - length m.threads ≡ a.k - c.threads-threads.result = omega (arith, same) in
    let there : slice_get starts (a.k - length m.threads) ≡ Some c.start-start.result
    = ap (slice_get starts) index ∙ c.start-start.ensures in
    begun_taken m c.clear_row.new.self reported starts a.k c.start-start.result
    (g.S.ThreadStart.reported c.at.result) beyond there c.at.ensures c.clear_row.ensures

-- The goals from here on need no lemma of their own. They have answers because the prover would
-- try other calls first, which takes long
pub returns-then-k-threads-clause-thread : goal.returns-then-k-threads-clause-thread
returns-then-k-threads-clause-thread g c = grind (arith, common_steps)

pub returns-clause-row : goal.returns-clause-row
returns-clause-row g c = grind (arith, common_steps)
