use Rattle.regex_lite_meta.proofs.Common.{◌^◌, ◌<◌, ◌==◌, not, length, chars, subst, rules}
use Rattle.regex_lite_meta.proofs.Common.{position_at}
use Rattle.regex_lite_engine.specs.Search.NumberedOutcomes.{IsFoundTo}
use Rattle.regex_lite_engine.proofs.search.OutcomeLemmas.{can_count}
use Rattle.regex_lite_meta.proofs.anchored.find_anchored.Goals as goal

pub run_anchored-requires-clause-fresh : goal.run_anchored-requires-clause-fresh
run_anchored-requires-clause-fresh g c =
    c.restart.ensures.fresh (g.P.Patterns.table c.args.patterns.now) c.requires.between

pub run_anchored-requires-clause-counts : goal.run_anchored-requires-clause-counts
run_anchored-requires-clause-counts g c =
    let haystack = c.args.haystack.now in
    let short : length haystack < 2 ^ 63 = search rules in
    can_count (g.P.Patterns.table c.args.patterns.now) haystack
    (position_at haystack c.args.start) c.utf8.haystack short c.requires.countable
    (length (g.P.Patterns.entries c.args.patterns.now)) c.requires.few

pub returns-clause-found : goal.returns-clause-found
returns-clause-found g c =
    let haystack = c.args.haystack.now in
    let s = position_at haystack c.args.start in
    subst (IsFoundTo (not (g.row.EARLIEST == 0)) (g.P.Patterns.table c.args.patterns.now)
    (chars haystack) (g.P.Patterns.entries c.args.patterns.now) (not (g.row.WHOLE == 0)) s s)
    c.found.ensures
    c.run_anchored.ensures.found
