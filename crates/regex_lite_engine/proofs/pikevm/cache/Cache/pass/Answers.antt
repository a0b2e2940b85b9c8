use Rattle.regex_lite_engine.proofs.Common.{length, chars}
use Rattle.regex_lite_engine.proofs.Common.{best_of}
use Rattle.regex_lite_engine.specs.Pikevm.Passing.{IsUnderWay, GoesOnAt}
use Rattle.regex_lite_engine.proofs.pikevm.PassLemmas.{onward, moved_on}
use Rattle.regex_lite_engine.proofs.pikevm.SteppingLemmas.{starts_up_to}
use Rattle.regex_lite_engine.proofs.pikevm.cache.Cache.pass.Goals as goal

pub next_start-here-requires : goal.next_start-here-requires
next_start-here-requires g c = (c.requires.1, c.requires.2)

pub come_to-requires : goal.come_to-requires
come_to-requires g c =
    let a = c.args in
    let from = c.requires in
    let haystack = chars a.haystack.now in
    let w =
    onward (g.P.Patterns.table a.patterns.now) haystack (g.P.Patterns.entries a.patterns.now)
    from.0 (length haystack) from.1 a.self.now.walk.memory.threads (best_of a.self.now.best)
    c.next_start-here.result (c.next_start-here.ensures from.1 from.2) from.4.coming in
    (w.q, w.is)

pub go_over-requires-clause-on : goal.go_over-requires-clause-on
go_over-requires-clause-on g c =
    let a = c.args in
    let from = c.requires in
    let haystack = chars a.haystack.now in
    let w =
    onward (g.P.Patterns.table a.patterns.now) haystack (g.P.Patterns.entries a.patterns.now)
    from.0 (length haystack) from.1 a.self.now.walk.memory.threads (best_of a.self.now.best)
    c.next_start-here.result (c.next_start-here.ensures from.1 from.2) from.4.coming in (
      haystack,
      from.0,
      length haystack,
      w.q,
      w.is,
      rw (c.come_to.ensures.table, c.come_to.ensures.entries) from.3,
      rw (c.come_to.ensures.table, c.come_to.ensures.entries) (moved_on from.4 w.later w.coming),
    )

pub returns-clause-passes : goal.returns-clause-passes
returns-clause-passes g c s p is before =
    let a = c.args in
    let table = g.P.Patterns.table c.come_to.new.self in
    let entries = g.P.Patterns.entries c.come_to.new.self in
    let haystack = chars a.haystack.now in
    let old = a.self.now in
    let on : IsUnderWay table haystack entries s p old =
    rw (c.come_to.ensures.table, c.come_to.ensures.entries) before in
    let goes : GoesOnAt table haystack entries old.walk.memory.threads (best_of old.best) p
    c.next_start-here.result =
    rw (c.come_to.ensures.table, c.come_to.ensures.entries) (c.next_start-here.ensures p is) in
    let w = onward table haystack entries s (length haystack) p old.walk.memory.threads
    (best_of old.best) c.next_start-here.result goes on.coming in
    record {
      q = w.q;
      later = w.later;
      is = w.is;
      before = w.coming;
      ends = c.go_over.ensures.ends;
      after = c.go_over.ensures.on haystack s (length haystack) w.q w.is
          (starts_up_to {p = w.q} w.is.inside (c.come_to.ensures.starts w.q w.is))
          (moved_on on w.later w.coming);
    }
