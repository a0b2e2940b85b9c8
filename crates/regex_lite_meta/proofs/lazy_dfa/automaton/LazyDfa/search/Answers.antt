use Rattle.regex_lite_meta.proofs.Common.{◌<◌, ◌^◌, length, arith, position_at, rules}
use Rattle.regex_lite_meta.proofs.lazy_dfa.BeginLemmas.{starts_at}
use Rattle.regex_lite_meta.proofs.lazy_dfa.automaton.LazyDfa.search.Goals as goal

pub run-requires-clause-scanning : goal.run-requires-clause-scanning
run-requires-clause-scanning g c =
    let on = c.requires.on.counted in
    let bs = c.args.haystack.now in
    let short : length bs < 2 ^ 63 = search rules in (
      on.0,
      position_at bs c.args.from,
      starts_at (g.P.Patterns.table c.args.patterns.now) (g.P.Patterns.entries c.args.patterns.now)
          bs c.utf8.haystack on.0 c.args.from c.requires.on.boundary on.1 (omega (arith, short))
          c.args.self.now c.in-Some.state c.in-Some.ensures,
    )

pub returns-then-run : goal.returns-then-run
returns-then-run g c =
    let bs = c.args.haystack.now in
    let short : length bs < 2 ^ 63 = search rules in
    let on = c.requires.on in
    record {
      found = λ s skips.
          c.run.ensures.over c.if-run.true s (position_at bs c.args.from)
          (starts_at (g.P.Patterns.table c.args.patterns.now)
          (g.P.Patterns.entries c.args.patterns.now) bs c.utf8.haystack s c.args.from on.boundary
          skips (omega (arith, short)) c.args.self.now c.in-Some.state c.in-Some.ensures);
      stands = λ s skips. tt;
      none = tt;
      not_anew = tt;
      is_dfa = on.is_dfa;
      none_pending = on.none_pending;
      between = on.between;
      width = on.width;
    }

pub search_on-requires-clause-scanned : goal.search_on-requires-clause-scanned
search_on-requires-clause-scanned g c = λ s skips.
    let bs = c.args.haystack.now in
    let short : length bs < 2 ^ 63 = search rules in
    c.run.ensures.on c.if-run.false s (position_at bs c.args.from)
    (starts_at (g.P.Patterns.table c.args.patterns.now) (g.P.Patterns.entries c.args.patterns.now)
    bs c.utf8.haystack s c.args.from c.requires.on.boundary skips (omega (arith, short))
    c.args.self.now c.in-Some.state c.in-Some.ensures)
