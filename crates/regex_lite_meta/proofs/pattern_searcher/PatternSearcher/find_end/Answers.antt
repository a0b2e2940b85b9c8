use Rattle.regex_lite_meta.proofs.Common.{◌^◌, ◌<◌, length, refl, arith, rules}
use Rattle.regex_lite_meta.proofs.Common.{places_of, best_of, best_reported, position_at}
use Rattle.regex_lite_engine.proofs.OffsetLemmas.{boundary_at}
use Rattle.regex_lite_engine.proofs.pikevm.PassLemmas.{begun}
use Rattle.regex_lite_engine.proofs.pikevm.StopLemmas.{over_found}
use Rattle.regex_lite_engine.proofs.search.FirstStartLemmas.{first_here}
use Rattle.regex_lite_engine.proofs.search.OutcomeLemmas.{can_count}
use Rattle.regex_lite_meta.proofs.EndLemmas.{end_reported, none_reported}
use Rattle.regex_lite_meta.proofs.pattern_searcher.PatternSearcher.find_end.Goals as goal

pub returns-in_err-first-clause-found : goal.returns-in_err-first-clause-found
returns-in_err-first-clause-found c =
    let one = c.args.pattern.now in
    rw c.from_residual.ensures
    (none_reported (places_of one.table.now) c.args.haystack.now one.entry c.args.start
    (c.in_err-first.ensures.none refl))

pub advance-requires-clause-on : goal.advance-requires-clause-on
advance-requires-clause-on c =
    let one = c.args.pattern.now in
    let table = places_of one.table.now in
    let haystack = c.args.haystack.now in
    let m = position_at haystack c.in_ok-first.first.at in
    let short : length haystack < 2 ^ 63 = search rules in (
      m,
      m,
      first_here table haystack c.utf8.haystack one.entry (position_at haystack c.args.start)
          c.in_ok-first.first c.in_ok-first.ensures.first,
      can_count table haystack m c.utf8.haystack short c.requires.searches.memory.countable 1
          (omega arith),
      begun _ _ _ m c.restart.new.cache
          (c.restart.ensures.fresh table c.requires.searches.memory.between),
    )

pub returns-in_default-clause-found : goal.returns-in_default-clause-found
returns-in_default-clause-found c =
    let one = c.args.pattern.now in
    let table = places_of one.table.now in
    let haystack = c.args.haystack.now in
    let m = position_at haystack c.in_ok-first.first.at in
    let here = first_here table haystack c.utf8.haystack one.entry
    (position_at haystack c.args.start) c.in_ok-first.first c.in_ok-first.ensures.first in
    let fresh = c.restart.ensures.fresh table c.requires.searches.memory.between in
    let found = over_found (rw (c.advance.ensures.all refl) at
    (c.advance.ensures.stops m m here (begun _ _ _ m c.restart.new.cache fresh))) in
    rw c.end.ensures
    (end_reported table haystack one.entry c.args.start c.utf8.haystack c.in_ok-first.first
    c.in_ok-first.ensures.first (best_of c.advance.new.cache.best) found)

pub find-requires-clause-on : goal.find-requires-clause-on
find-requires-clause-on c =
    let one = c.args.pattern.now in
    let table = places_of one.table.now in
    let haystack = c.args.haystack.now in
    let m = position_at haystack c.in_ok-first.first.at in
    let short : length haystack < 2 ^ 63 = search rules in
    can_count table haystack m c.utf8.haystack short c.requires.searches.memory.countable 1
    (omega arith)

pub find-requires-clause-boundary : goal.find-requires-clause-boundary
find-requires-clause-boundary c =
    let one = c.args.pattern.now in
    let haystack = c.args.haystack.now in
    let first = c.in_ok-first.first in
    let here = first_here (places_of one.table.now) haystack c.utf8.haystack one.entry
    (position_at haystack c.args.start) first c.in_ok-first.ensures.first in
    boundary_at haystack (position_at haystack first.at) first.at c.utf8.haystack
    (here.inside, here.bytes)

pub returns-clause-found : goal.returns-clause-found
returns-clause-found c =
    let one = c.args.pattern.now in
    let table = places_of one.table.now in
    let haystack = c.args.haystack.now in
    rw c.end_of.ensures
    (end_reported table haystack one.entry c.args.start c.utf8.haystack c.in_ok-first.first
    c.in_ok-first.ensures.first (best_reported c.find.result) c.find.ensures.found)
