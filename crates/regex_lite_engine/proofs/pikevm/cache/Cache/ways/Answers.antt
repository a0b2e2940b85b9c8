use Rattle.regex_lite_engine.proofs.Common.{◌≡◌, length, replicate, None, ap, arith, length-append}
use Rattle.regex_lite_engine.proofs.Common.{best_of, begun, with_starts, Row}
use Rattle.regex_lite_engine.proofs.pikevm.ThreadLemmas.{begun_length}
use Rattle.regex_lite_engine.proofs.pikevm.cache.Cache.ways.Goals as goal

pub returns-then-is_none : goal.returns-then-is_none
returns-then-is_none g c = λ at.
    let a = c.args in
    let m = a.self.now.walk.memory in
    let blank : Row = replicate (length m.row) None in
    let none : best_of a.self.now.best ≡ None = c.is_none.ensures.0 c.if-is_none.true in
    let ways = ap (λ b.
    length (with_starts (g.P.Patterns.starts a.patterns.now) at b (length m.row) m.threads)) none in
    omega (
      arith,
      ways,
      c.threads-threads.ensures.same,
      length-append m.threads (begun at blank (g.P.Patterns.starts a.patterns.now)),
      begun_length at blank (g.P.Patterns.starts a.patterns.now),
    )
